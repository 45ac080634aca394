use Rattle.std.specs.Prelude.{count_by}
use Rattle.bpf_verify.specs.Waits.{IsTaking}
use Rattle.bpf_verify.proofs.graph.order.order.Given as goal

abbrev pub invariant-loop-pc : goal.invariant-loop-pc
invariant-loop-pc l = IsTaking l.code l.fn.start.items l.live.items l.taken.items l.waits.items l.from

abbrev pub decreases-loop-pc : goal.decreases-loop-pc
decreases-loop-pc l = count_by (λ b. b) l.live.items
