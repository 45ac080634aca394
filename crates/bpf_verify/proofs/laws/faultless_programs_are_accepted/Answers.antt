use Rattle.bpf_verify.proofs.AnswerLemmas.{memory_alone}
use Rattle.bpf_verify.proofs.laws.faultless_programs_are_accepted.Goals as goal

pub returns : goal.returns
returns c = λ code shapes cause pc laid f r. memory_alone code shapes cause pc laid f r
