use Rattle.std.proofs.Common.{◌≡◌, length}
use Rattle.xen_back.specs.Queues.{IsReady, wiring_of}
use Rattle.xdp_bench.proofs.deliveries.time_over.Given as goal

abbrev pub invariant-loop-delivery : goal.invariant-loop-delivery
invariant-loop-delivery g l =
    record {
      ready : IsReady l.queue;
      size : g.B.Bus.size l.bus ≡ length (wiring_of l.queue).vif.owners.now;
    }

abbrev pub invariant-loop-batch : goal.invariant-loop-batch
invariant-loop-batch g l =
    record {
      ready : IsReady l.queue;
      size : g.B.Bus.size l.bus ≡ length (wiring_of l.queue).vif.owners.now;
    }
