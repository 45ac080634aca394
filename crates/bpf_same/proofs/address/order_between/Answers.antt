use Rattle.bpf_same.proofs.RoomLemmas.{order_between_if}
use Rattle.bpf_same.proofs.address.order_between.Goals as goal

pub returns-in-Register-clause-order : goal.returns-in-Register-clause-order
returns-in-Register-clause-order c = λ off.
    order_between_if c.args.cond c.args.dst c.in-Register.register c.args.src off c.order_by.result c.number-first.result c.number-second.result c.in-Register.is c.number-first.ensures.number c.number-second.ensures.number c.order_by.ensures.order
