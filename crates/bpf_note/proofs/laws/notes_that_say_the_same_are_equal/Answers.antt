use Rattle.std.proofs.Common.{◌∙◌, sym}
use Rattle.bpf_note.proofs.FactLemmas.{same_notes}
use Rattle.bpf_note.proofs.laws.notes_that_say_the_same_are_equal.Goals as goal

pub returns : goal.returns
returns c =
    rw (← c.a.view_is, ← c.b.view_is) (same_notes _ _ (c.are_eleven.ensures ∙ sym c.are_eleven-2.ensures) (c.have_eight_bytes.ensures.length ∙ sym c.have_eight_bytes-2.ensures.length)
    c.have_eight_bytes.ensures.bytes c.have_eight_bytes-2.ensures.bytes c.a.invariant.0 c.b.invariant.0)
