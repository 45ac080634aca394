use Rattle.bpf_note.specs.Parts.{facts}
use Rattle.bpf_same.proofs.RoomLemmas.{still_address}
use Rattle.bpf_same.proofs.step.Step.is_in_room.Goals as goal

pub returns : goal.returns
returns c = λ t. let s = c.args.self.now in still_address s.insn s.stutters s.low (facts s.after.now) s.before.now c.args.form (c.has_room_of.ensures t)
