-- Stated: claims rest on this file.
-- A packet that the host delivers to the frontend: a row for each thing that may become of it.
use Rattle.std.specs.Prelude.{ℕ, List, Option}
use Rattle.xen_netif.specs.declared.offload.RxOffload.{RxOffload}
use Rattle.xen_page.specs.Access.{Performs}
use Rattle.xen_page.specs.declared.access.Access.{Access}
use Rattle.xen_steps.specs.Drive.{accesses}
use Rattle.xen_steps.specs.Event.{Event}
use Rattle.xen_back.specs.Queues.{IsReady, IsSameWiring, state_of, wiring_of}
use Rattle.xen_turns.specs.declared.delivery.delivering.Delivery.{Delivery}
use Rattle.xen_back.specs.declared.queue.Queue.{Queue}
use Rattle.xen_turns.specs.Delivered.{IsDelivery}

-- A packet was delivered, or why not: its trace is a delivery's, and its accesses are the bus's.
pub record IsDelivered {S : Type 0} (log : S → Option (List Access)) (gives : S → Access → S → Type 0)
    (old new : Queue) (o : RxOffload) (packet : List ℕ) (result : Delivery) (bus bus' : S) : Type 0 where
  pub trace : List Event
  pub is_delivery : IsDelivery (wiring_of old) (state_of old) o packet trace (state_of new) result
  pub performed : Performs log gives bus (accesses trace) bus'
  pub ready : IsReady new
  pub same : IsSameWiring old new
