use Rattle.std.proofs.Common.{rules, ◌≡◌, ◌∙◌, false, sym}
use Rattle.bpf_note.specs.Parts.{facts}
use Rattle.bpf_same.specs.Stepped.{alters}
use Rattle.bpf_same.proofs.RoomLemmas.{below_room, below_end}
use Rattle.bpf_same.proofs.step.Step.is_below_end.Goals as goal

pub returns-then-has_room_of : goal.returns-then-has_room_of
returns-then-has_room_of c = λ t. let s = c.args.self.now in below_room s.insn s.stutters s.low (facts s.after.now) s.before.now c.args.register c.new_form.result c.new_form.ensures (c.has_room_of.ensures c.if-has_room_of.true)

pub returns-in-PktEnd : goal.returns-in-PktEnd
returns-in-PktEnd c = λ t.
    let s = c.args.self.now in
    let left : alters s.insn c.args.register ≡ false = search rules in
    below_end s.insn s.stutters s.low (facts s.after.now) s.before.now c.args.register c.requires left (sym c.register.ensures.value ∙ c.in-PktEnd.is)
