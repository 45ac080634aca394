use Rattle.bpf_insn.proofs.ResultLemmas.{computed_fits, negated_fits, swapped_fits, extended_fits, moved_extended_fits}
use Rattle.bpf_insn.proofs.laws.results_fit.Goals as goal

pub returns-clause-alu : goal.returns-clause-alu
returns-clause-alu c = computed_fits

pub returns-clause-neg : goal.returns-clause-neg
returns-clause-neg c = negated_fits

pub returns-clause-swap : goal.returns-clause-swap
returns-clause-swap c = swapped_fits

pub returns-clause-extend : goal.returns-clause-extend
returns-clause-extend c = extended_fits

pub returns-clause-move_extend : goal.returns-clause-move_extend
returns-clause-move_extend c = moved_extended_fits
