use Rattle.std.proofs.Common.{◌≡◌, length}
use Rattle.bpf_maps.specs.Seats.{IsSeatOf}
use Rattle.xen_back.specs.Queues.{IsReady, wiring_of}
use Rattle.example_queue.proofs.serve.Given as goal

abbrev pub invariant-loop-turn : goal.invariant-loop-turn
invariant-loop-turn l =
    record {
      ready : IsReady l.queue;
      frames : length (wiring_of l.queue).vif.owners.now ≡ 5;
      shapes : l.counters.shapes ≡ (wiring_of l.queue).program.now.shapes;
      seat : IsSeatOf l.counters l.seat;
    }
