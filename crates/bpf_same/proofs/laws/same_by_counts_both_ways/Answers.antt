use Rattle.bpf_same.proofs.WholeLemmas.{whole}
use Rattle.bpf_same.proofs.laws.same_by_counts_both_ways.Goals as goal

pub returns : goal.returns
returns c = λ p old k same. whole p old (λ s is e. c.accepted_programs_end.ensures.end p k s is e) same
