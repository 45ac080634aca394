use Rattle.std.proofs.Common.{◌≡◌, ◌<◌, ℕ, Some}
use Rattle.std.specs.Prelude.{slice_get}
use Rattle.std.specs.Global.{Box}
use Rattle.bpf_note.specs.Parts.{Noted, facts}
use Rattle.bpf_verify.proofs.note_list.NoteList.holds.Given as goal

abbrev pub invariant-loop-listed : goal.invariant-loop-listed
invariant-loop-listed l = (k : ℕ) → k < l.listed-index → (b : Box Noted) → slice_get l.listed-items k ≡ Some b → facts b.value ≡ facts l.note → ⊥
