use Rattle.bpf_note.specs.Parts.{facts}
use Rattle.bpf_same.proofs.RoomLemmas.{preserves_address}
use Rattle.bpf_same.proofs.step.Step.preserves_address.Goals as goal

pub returns-then-is_in_room : goal.returns-then-is_in_room
returns-then-is_in_room c = λ t. let s = c.args.self.now in preserves_address s.insn s.stutters s.low (facts s.after.now) s.before.now c.args.form c.in-Some.here c.in-Some.ensures (c.is_in_room.ensures c.if-is_in_room.true)

pub returns-then-is_noted : goal.returns-then-is_noted
returns-then-is_noted c = λ t. let s = c.args.self.now in preserves_address s.insn s.stutters s.low (facts s.after.now) s.before.now c.args.form c.in-Some.here c.in-Some.ensures (c.is_noted.ensures c.if-is_noted.true)

pub returns-then-is_compared : goal.returns-then-is_compared
returns-then-is_compared c = λ t. let s = c.args.self.now in preserves_address s.insn s.stutters s.low (facts s.after.now) s.before.now c.args.form c.in-Some.here c.in-Some.ensures (c.is_compared.ensures c.if-is_compared.true)

pub returns : goal.returns
returns c = λ t. let s = c.args.self.now in preserves_address s.insn s.stutters s.low (facts s.after.now) s.before.now c.args.form c.in-Some.here c.in-Some.ensures (c.is_reached.ensures t)
