use Rattle.bpf_same.proofs.AloneLemmas.{same_alone, counts_alone, alone_back}
use Rattle.bpf_same.proofs.laws.same_alone.Goals as goal

pub returns-clause-same : goal.returns-clause-same
returns-clause-same c = λ p old k h. same_alone p old (λ s is e. c.accepted_programs_end.ensures.end p k s is e) h

pub returns-clause-counts : goal.returns-clause-counts
returns-clause-counts c = λ p old k h. counts_alone p old (λ s is e. c.accepted_programs_end.ensures.end p k s is e) h

pub returns-clause-both_ways : goal.returns-clause-both_ways
returns-clause-both_ways c = λ p old k h. alone_back p old (λ s is e. c.accepted_programs_end.ensures.end p k s is e) h
