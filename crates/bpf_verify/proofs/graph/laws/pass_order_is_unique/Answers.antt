use Rattle.bpf_verify.proofs.LawLemmas.{one_order}
use Rattle.bpf_verify.proofs.graph.laws.pass_order_is_unique.Goals as goal

pub returns : goal.returns
returns c = λ code xs ys a b. one_order a.takes a.whole b.takes b.whole
