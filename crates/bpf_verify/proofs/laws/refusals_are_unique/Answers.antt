use Rattle.bpf_verify.proofs.AnswerLemmas.{one_refusal}
use Rattle.bpf_verify.proofs.laws.refusals_are_unique.Goals as goal

pub returns : goal.returns
returns c = λ code shapes cause cause' pc pc' laid a b r s. one_refusal code shapes cause cause' pc pc' laid a b r s
