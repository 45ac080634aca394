use Rattle.bpf_insn.proofs.UniqueLemmas.{code_or_none, one_refusal}
use Rattle.bpf_insn.proofs.laws.refusal_is_unique.Goals as goal

pub returns-clause-none : goal.returns-clause-none
returns-clause-none c = code_or_none

pub returns-clause-one : goal.returns-clause-one
returns-clause-one c = one_refusal
