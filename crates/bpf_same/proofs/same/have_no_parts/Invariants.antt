use Rattle.std.proofs.Common.{◌≡◌, ◌<◌, ℕ, Some, false}
use Rattle.std.specs.Prelude.{slice_get}
use Rattle.bpf_note.specs.Shape.{Shape}
use Rattle.bpf_same.proofs.same.have_no_parts.Given as goal

abbrev pub invariant-loop-shape : goal.invariant-loop-shape
invariant-loop-shape l = (m : ℕ) (shape : Shape) → m < l.shape-index → slice_get l.shapes m ≡ Some shape → shape.parts ≡ false
