use Rattle.std.proofs.Common.{◌≡◌, ◌<◌, ℕ, Some}
use Rattle.std.specs.Prelude.{slice_get}
use Rattle.bpf_note.specs.Shape.{Shape, IsShape}
use Rattle.bpf_verify.proofs.verifier.are_shapes.Given as goal

abbrev pub invariant-loop-shape : goal.invariant-loop-shape
invariant-loop-shape l = (m : ℕ) (shape : Shape) → m < l.shape-index → slice_get l.shapes m ≡ Some shape → IsShape shape
