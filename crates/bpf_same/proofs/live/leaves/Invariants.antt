use Rattle.std.proofs.Common.{◌≡◌, ◌<◌, ◌⊎◌, ℕ, true}
use Rattle.bpf_same.specs.LinearForms.{bit}
use Rattle.bpf_same.specs.Stepped.{alters}
use Rattle.bpf_same.proofs.live.leaves.Given as goal

abbrev pub invariant-loop-register : goal.invariant-loop-register
invariant-loop-register l = (k : ℕ) → k < l.register → bit l.after k ≡ 1 → (bit l.before k ≡ 1) ⊎ (alters l.insn k ≡ true)
