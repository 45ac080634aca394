use Rattle.bpf_verify.proofs.RisingLemmas.{IsRisen}
use Rattle.bpf_verify.proofs.graph.rising.rising_order.Given as goal

abbrev pub invariant-loop-pc : goal.invariant-loop-pc
invariant-loop-pc l = IsRisen l.code l.marks.items l.taken.items l.pc
