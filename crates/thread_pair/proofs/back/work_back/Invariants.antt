use Rattle.std.proofs.Common.{◌≡◌, List, length}
use Rattle.bpf_maps.specs.Seats.{IsSeatOf}
use Rattle.xdp_world.specs.Core.{started_at}
use Rattle.xen_back.specs.Queues.{IsReady, state_of, wiring_of}
use Rattle.xen_page.specs.Access.{Performs}
use Rattle.xen_page.specs.declared.access.Access.{Access}
use Rattle.thread_pair.specs.Rounds.{Round, counted}
use Rattle.thread_pair.specs.Working.{IsWiredFor, Works, task_of}
use Rattle.thread_pair.proofs.back.work_back.Given as goal

abbrev pub invariant-loop-done : goal.invariant-loop-done
invariant-loop-done g l =
    record {
      ready : IsReady l.queue;
      size : g.B.Bus.size l.bus ≡ length (wiring_of l.queue).vif.owners.now;
      shapes : l.counters.shapes ≡ (wiring_of l.queue).program.now.shapes;
      seat : IsSeatOf l.counters l.seat;
      number : l.seat.number ≡ l.fn.own.seat.number;
      wired : IsWiredFor (task_of l.program l.lists l.shared) l.seat.number (wiring_of l.queue);
      work : (rs : List Round) × (xs : List Access) × (length rs ≡ l.done) × Works l.shared.host (wiring_of l.queue) (started_at l.shared.start) rs l.seat.ops xs (state_of l.queue) × (l.row ≡ counted rs)
          × Performs g.B.Bus.log g.B.Bus.access_gives l.fn.bus xs l.bus;
    }
