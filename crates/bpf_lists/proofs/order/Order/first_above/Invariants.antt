use Rattle.std.proofs.Common.{◌-◌}
use Rattle.bpf_lists.specs.Keys.{value}
use Rattle.bpf_lists.specs.Order.{IsSpan}
use Rattle.bpf_lists.proofs.order.Order.first_above.Given as goal

abbrev pub invariant-loop-span : goal.invariant-loop-span
invariant-loop-span l = IsSpan l.self (value l.wanted) l.span.low l.span.high

abbrev pub decreases-loop-span : goal.decreases-loop-span
decreases-loop-span l = l.span.high - l.span.low
