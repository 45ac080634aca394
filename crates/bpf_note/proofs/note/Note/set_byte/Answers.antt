use Rattle.std.proofs.Common.{◌%◌, ◌∙◌, ap, true, arith}
use Rattle.bpf_note.specs.declared.slot.Slot.{Slot}
use Rattle.bpf_note.specs.State.{put}
use Rattle.bpf_note.specs.Parts.{no_bytes, set_of}
use Rattle.bpf_note.proofs.PlaceLemmas.{same_read}
use Rattle.bpf_note.proofs.FactLemmas.{facts_byte}
use Rattle.bpf_note.proofs.note.Note.set_byte.Goals as goal

pub returns : goal.returns
returns c =
    rw (← c.self.view_is) (facts_byte c.self.inside.regs c.self.inside.slots c.self.inside.bounds c.args.byte c.from-at.result c.slot_with_byte.result (omega arith) (omega arith) c.slot_with_byte.ensures.kept
    (λ r lt. c.slot_with_byte.ensures.set r lt ∙ ap (λ (s : Slot). put (set_of s) (c.args.byte % 8) true r) (same_read c.self.inside.slots c.from-at.result _ no_bytes (omega arith))))
