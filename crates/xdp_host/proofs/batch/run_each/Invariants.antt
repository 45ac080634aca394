use Rattle.std.proofs.Common.{◌≡◌, drop, take}
use Rattle.xdp_host.specs.Batch.{RanEach}
use Rattle.xdp_host.proofs.batch.run_each.Given as goal

abbrev pub invariant-loop-number : goal.invariant-loop-number
invariant-loop-number l = record {
  kept : l.held ≡ l.fn.held;
  ran : RanEach l.fn.held.program l.fn.held.lists l.ifindex l.queue (record { bytes = l.fn.bytes; words = l.fn.counters }) (take l.number l.packets) (take l.number l.results) (record { bytes = l.bytes; words = l.counters });
  rest : drop l.number l.results ≡ drop l.number l.fn.results;
}
