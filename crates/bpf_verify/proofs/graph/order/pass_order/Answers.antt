use Rattle.bpf_verify.proofs.OrderLemmas.{passes}
use Rattle.bpf_verify.proofs.graph.order.pass_order.Goals as goal

pub returns : goal.returns
returns c =
    passes c.args.code.now c.in_ok-start.start.items c.in_ok-order.order.left.items c.in_ok-order.order.taken.items (λ q. (c.in_ok-start.ensures.exact q).0) (λ q. (c.in_ok-start.ensures.exact q).1)
    c.in_ok-order.ensures.takes c.in_ok-order.ensures.left c.requires.ordered
