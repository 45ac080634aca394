-- Stated: claims rest on this file.
-- What contracts see of a delivery that is taken one event at a time.
use Rattle.std.specs.Prelude.{ℕ, ◌≡◌, ◌≢◌, List, length}
use Rattle.xen_netif.specs.declared.offload.RxOffload.{RxOffload}
use Rattle.xen_steps.specs.Answers.{number}
use Rattle.xen_steps.specs.Drive.{IsPageWant}
use Rattle.xen_steps.specs.Steps.{Steps, done, next, want_of}
use Rattle.xen_steps.specs.declared.want.Answer.{Answer}
use Rattle.xen_steps.specs.declared.want.Want.{Want}
use Rattle.xen_steps.specs.declared.want.Want.TheVariants as wants
use Rattle.xen_turns.specs.Deliveries.{Arrival, whole_delivery}
use Rattle.xen_back.specs.Deliveries.{rest_moving}
use Rattle.xen_back.specs.Queues.{IsReady, IsSameWiring, state_of, wiring_of}
use Rattle.xen_back.specs.declared.delivery.underway.Delivering.{Delivering}
use Rattle.xen_turns.specs.declared.delivery.delivering.Delivery.{Delivery}
use Rattle.xen_back.specs.declared.queue.Queue.{Queue}

-- What is left of a delivery.
abbrev pub left_of : Delivering → Steps Arrival
left_of d = rest_moving d.vif d.state d.moving

-- How many frames there are, in which each place lies that it wants.
abbrev pub frames_of : Delivering → ℕ
frames_of d = length d.vif.owners.now

-- A delivery that was begun by a queue as it is.
pub record IsDeliveryOf (q : Queue) (d : Delivering) : Type 0 where
  pub vif : d.vif ≡ (wiring_of q).vif
  pub state : d.state ≡ state_of q

-- All of a packet's delivery is left.
pub record IsBegun (q : Queue) (o : RxOffload) (packet : List ℕ) (d : Delivering) : Type 0 where
  pub left : left_of d ≡ whole_delivery (wiring_of q).vif (wiring_of q).accepts (state_of q) o packet
  pub own : IsDeliveryOf q d

-- A delivery that was fed an answer: what it has left is what follows that answer.
pub record IsDeliveryFed (answer : Answer) (old new : Delivering) : Type 0 where
  pub left : left_of new ≡ next (left_of old) (number answer)
  pub vif : new.vif ≡ old.vif
  pub state : new.state ≡ old.state

-- A delivery that was asked what it wants.
pub record IsDeliveryAsked (wanted : Want) (old new : Delivering) : Type 0 where
  pub want : wanted ≡ want_of (left_of old)
  pub within : wanted ≢ wants.Done → IsPageWant (frames_of old) wanted
  pub left : left_of new ≡ left_of old
  pub vif : new.vif ≡ old.vif
  pub state : new.state ≡ old.state

-- A delivery is over, and then the queue goes on.
pub record IsDeliveryOver (old new : Queue) (d : Delivering) (result : Delivery) : Type 0 where
  pub over : left_of d ≡ done (state_of new, result)
  pub ready : IsReady new
  pub same : IsSameWiring old new
