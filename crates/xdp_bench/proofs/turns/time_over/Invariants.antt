use Rattle.std.proofs.Common.{◌≡◌, length}
use Rattle.bpf_maps.specs.Seats.{IsSeatOf}
use Rattle.xen_back.specs.Queues.{IsReady, wiring_of}
use Rattle.xdp_bench.proofs.turns.time_over.Given as goal

abbrev pub invariant-loop-turn : goal.invariant-loop-turn
invariant-loop-turn g l =
    record {
      ready : IsReady l.queue;
      size : g.B.Bus.size l.bus ≡ length (wiring_of l.queue).vif.owners.now;
      shapes : l.counters.shapes ≡ (wiring_of l.queue).program.now.shapes;
      seat : IsSeatOf l.counters l.seat;
    }

abbrev pub invariant-loop-batch : goal.invariant-loop-batch
invariant-loop-batch g l =
    record {
      ready : IsReady l.queue;
      size : g.B.Bus.size l.bus ≡ length (wiring_of l.queue).vif.owners.now;
      shapes : l.counters.shapes ≡ (wiring_of l.queue).program.now.shapes;
      seat : IsSeatOf l.counters l.seat;
    }
