use Rattle.std.proofs.Common.{◌≤◌}
use Rattle.bpf_lists.specs.Order.{Reaches}
use Rattle.bpf_lists.proofs.order.Order.climb.Given as goal

abbrev pub invariant-loop-above : goal.invariant-loop-above
invariant-loop-above l = record {
  most : l.above ≤ l.from;
  reaches : Reaches l.self l.from l.key l.above;
}

abbrev pub decreases-loop-above : goal.decreases-loop-above
decreases-loop-above l = l.above
