-- Stated: claims rest on this file.
-- A host waits for rx slots: a row for each answer.
-- It is the end of ring.h's RING_FINAL_CHECK_FOR_REQUESTS, for as many requests as a packet takes slots: req_event is stored,
-- and then req_prod is read.
use Rattle.std.specs.Prelude.{ℕ, List, Option}
use Rattle.xen_page.specs.Access.{Performs}
use Rattle.xen_page.specs.declared.access.Access.{Access}
use Rattle.xen_steps.specs.Drive.{accesses}
use Rattle.xen_steps.specs.Event.{Event}
use Rattle.xen_back.specs.Queues.{IsReady, IsSameWiring, state_of, wiring_of}
use Rattle.xen_turns.specs.declared.delivery.wait.Awaited.{Awaited}
use Rattle.xen_back.specs.declared.queue.Queue.{Queue}
use Rattle.xen_turns.specs.Awaited.{IsAwaiting}

-- A host waits for `wanted` slots: its accesses are the bus's.
pub record HasAwaited {S : Type 0} (log : S → Option (List Access)) (gives : S → Access → S → Type 0)
    (old new : Queue) (wanted : ℕ) (result : Awaited) (bus bus' : S) : Type 0 where
  pub trace : List Event
  pub is_awaiting : IsAwaiting (wiring_of old) (state_of old) wanted trace (state_of new) result
  pub performed : Performs log gives bus (accesses trace) bus'
  pub ready : IsReady new
  pub same : IsSameWiring old new
