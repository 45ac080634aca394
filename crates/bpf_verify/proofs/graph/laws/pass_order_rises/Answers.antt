use Rattle.bpf_verify.proofs.LawLemmas.{rising}
use Rattle.bpf_verify.proofs.graph.laws.pass_order_rises.Goals as goal

pub returns : goal.returns
returns c = λ code xs a up i j. rising up a.takes i j
