use Rattle.std.proofs.Common.{◌≡◌, ◌<◌, ℕ, Some}
use Rattle.std.specs.Prelude.{slice_get}
use Rattle.bpf_insn.specs.declared.insn.Insn.{Insn}
use Rattle.bpf_same.specs.Renumbered.{IsWitnessed, IsRenumberedFrom}
use Rattle.bpf_same.proofs.renumbered.are_renumbered.Given as goal

abbrev pub invariant-loop-slot : goal.invariant-loop-slot
invariant-loop-slot l = (q p : ℕ) (i : Insn) → q < l.slot → slice_get l.new q ≡ Some i → IsWitnessed l.witnesses q p → IsRenumberedFrom l.witnesses (slice_get l.old p) i q p
