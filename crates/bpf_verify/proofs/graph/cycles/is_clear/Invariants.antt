use Rattle.std.proofs.Common.{◌≡◌, ◌<◌, ℕ, true}
use Rattle.bpf_verify.specs.Marks.{marked}
use Rattle.bpf_verify.proofs.graph.cycles.is_clear.Given as goal

abbrev pub invariant-loop-mark : goal.invariant-loop-mark
invariant-loop-mark l = (q : ℕ) → q < l.mark-index → marked l.marks q ≡ true → ⊥
