use Rattle.std.proofs.Common.{arith}
use Rattle.bpf_verify.proofs.LawLemmas.{steps_fall}
use Rattle.bpf_verify.proofs.OrderLemmas.{stands_below}
use Rattle.bpf_verify.proofs.graph.laws.runs_are_short.Goals as goal

pub returns : goal.returns
returns c = λ code k p q o s run. let low = stands_below code o p s in let fall = steps_fall o.falls run in omega (arith, low, fall)
