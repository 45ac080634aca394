use Rattle.std.proofs.Common.{◌≡◌, ◌<◌, ℕ, Some, false}
use Rattle.std.specs.Prelude.{slice_get}
use Rattle.bpf_insn.specs.declared.insn.Insn.{Insn}
use Rattle.bpf_verify.specs.Rising.{goes_back}
use Rattle.bpf_verify.proofs.graph.rising.is_rising.Given as goal

abbrev pub invariant-loop-insn : goal.invariant-loop-insn
invariant-loop-insn l = (q : ℕ) (i : Insn) → q < l.insn-index → slice_get l.code q ≡ Some i → goes_back i ≡ false
