-- The queue is between turns, and the delivery is its own.
use Rattle.xen_back.specs.ByEvent.{IsDeliveryOf}
use Rattle.xen_back.specs.Queues.{IsReady}
use Rattle.xen_back_tests.proofs.tests.delivered.deliver_by_event.Given as goal

abbrev pub invariant-loop-event : goal.invariant-loop-event
invariant-loop-event l =
    record {
      ready : IsReady l.queue;
      own : IsDeliveryOf l.queue l.delivering;
    }
