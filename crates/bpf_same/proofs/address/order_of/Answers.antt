use Rattle.bpf_same.proofs.RoomLemmas.{order_if}
use Rattle.bpf_same.proofs.address.order_of.Goals as goal

pub returns-then-wide-clause-order : goal.returns-then-wide-clause-order
returns-then-wide-clause-order c = order_if c.args.insn c.in-Jump.cond c.in-Jump.wide c.in-Jump.dst c.in-Jump.src c.in-Jump.off c.order_between.result c.in-Jump.is c.if-wide.true (c.order_between.ensures.order c.in-Jump.off)
