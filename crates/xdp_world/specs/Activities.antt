-- Stated: claims rest on this file.
-- What a queue does: turns, and between them deliveries of packets of the host's own and waits for rx slots.
use Rattle.std.specs.Prelude.{ℕ, ◌≡◌, ◌≢◌, ◌+◌, List, [], ◌∷◌, ◌++◌, Some, None}
use Rattle.xen_steps.specs.Drive.{LedBy}
use Rattle.xen_steps.specs.Event.{Event}
use Rattle.xen_steps.specs.Steps.{Runs, Steps, want_of}
use Rattle.xen_steps.specs.declared.want.Want.TheVariants as want
use Rattle.xen_turns.specs.Awaited.{IsAwaiting}
use Rattle.xen_netif.specs.declared.offload.RxOffload.TheVariants.{Whole}
use Rattle.xen_turns.specs.Delivered.{IsDelivery}
use Rattle.xen_turns.specs.Deliveries.{Arrival, whole_delivery}
use Rattle.xen_turns.specs.Turned.{Ending, Turned}
use Rattle.xen_turns.specs.Turns.{IsTurn}
use Rattle.xen_turns.specs.Waits.{Wait, whole_wait}
use Rattle.xen_turns.specs.declared.delivery.wait.Awaited.{Awaited}
use Rattle.xen_turns.specs.declared.delivery.delivering.Delivery.{Delivery}
use Rattle.xen_turns.specs.declared.state.State.{State}
use Rattle.xen_turns.specs.declared.turn.Halt.{Halt}
use Rattle.xen_turns.specs.declared.wiring.Wiring.{Wiring}
use Rattle.xdp_world.specs.Core.{IsUnfinished, started_at}
use Rattle.xdp_world.specs.Keeping.{Keeps}
use Rattle.xdp_world.specs.declared.kept.Kept.{Kept}
use Rattle.xdp_world.specs.declared.report.Delivered.{Delivered}
use Rattle.xdp_world.specs.declared.report.Waited.{Waited}

-- An item of a queue: a packet that the host gives it to deliver, a number of rx slots that the host awaits, and the events of turns,
-- deliveries and waits.
pub data Item : Type 0 where
  Given : (packet : List ℕ) → Item
  SlotsAwaited : (pages : ℕ) → Item
  Came : (event : Event) → Item

abbrev pub all_came : List Event → List Item
all_came [] = []
all_came (e ∷ es) = Came e ∷ all_came es

-- What is over: a turn, a delivery with what became of its packet, or a wait with its answer.
pub data Deed : Type 0 where
  TurnOf : (kept : Kept) → Deed
  DeliveryOf : (what : Delivery) → Deed
  WaitOf : (answer : Awaited) → Deed

-- A queue's items from a state on: turns, deliveries and waits, each from the state after the last, and what is left after them. A turn is
-- the events of its trace, a delivery its packet and then the events of its trace, and a wait the number of its slots and then the events
-- of its trace. No turn follows a halt.
pub data Activities (w : Wiring) : State → List Item → List Deed → State → List Item → Type 0 where
  none_over : (s : State) (front : List Item) → Activities w s front [] s front
  turn_over : (s mid end : State) (t : List Event) (more front : List Item) (u : Turned) (k : Kept) (ds : List Deed) →
      s.halt ≡ None → IsTurn w s t mid u → Keeps u k → Activities w mid more ds end front →
      Activities w s (all_came t ++ more) (TurnOf k ∷ ds) end front
  delivery_over : (s mid end : State) (packet : List ℕ) (t : List Event) (more front : List Item) (what : Delivery) (ds : List Deed) →
      IsDelivery w s Whole packet t mid what → Activities w mid more ds end front →
      Activities w s (Given packet ∷ (all_came t ++ more)) (DeliveryOf what ∷ ds) end front
  wait_over : (s mid end : State) (pages : ℕ) (t : List Event) (more front : List Item) (answer : Awaited) (ds : List Deed) →
      IsAwaiting w s pages t mid answer → Activities w mid more ds end front →
      Activities w s (SlotsAwaited pages ∷ (all_came t ++ more)) (WaitOf answer ∷ ds) end front

abbrev pub turns_in : List Deed → List Kept
turns_in [] = []
turns_in (TurnOf k ∷ ds) = k ∷ turns_in ds
turns_in (DeliveryOf what ∷ ds) = turns_in ds
turns_in (WaitOf answer ∷ ds) = turns_in ds

-- The deliveries, each with how many turns were over before it, n being over at first.
abbrev pub deliveries_in : ℕ → List Deed → List Delivered
deliveries_in n [] = []
deliveries_in n (TurnOf k ∷ ds) = deliveries_in (n + 1) ds
deliveries_in n (DeliveryOf what ∷ ds) = record { turns = n; delivery = what } ∷ deliveries_in n ds
deliveries_in n (WaitOf answer ∷ ds) = deliveries_in n ds

-- The waits, each with how many turns and deliveries were over before it, n and m being over at first.
abbrev pub waits_in : (turns deliveries : ℕ) → List Deed → List Waited
waits_in n m [] = []
waits_in n m (TurnOf k ∷ ds) = waits_in (n + 1) m ds
waits_in n m (DeliveryOf what ∷ ds) = waits_in n (m + 1) ds
waits_in n m (WaitOf answer ∷ ds) = record { turns = n; deliveries = m; awaited = answer } ∷ waits_in n m ds

-- A delivery that began with these events, and isn't over by them.
pub record IsUndelivered (w : Wiring) (s : State) (packet : List ℕ) (front : List Event) (left : Steps Arrival) : Type 0 where
  pub gone : LedBy (whole_delivery w.vif w.accepts s Whole packet) front left
  pub isnt_over : want_of left ≢ want.Done
  pub completed : (t : List Event) × (end : Arrival) × Runs left t end

-- A wait for `pages` slots that began with these events, and isn't over by them.
pub record IsUnwaited (w : Wiring) (s : State) (pages : ℕ) (front : List Event) (left : Steps Wait) : Type 0 where
  pub gone : LedBy (whole_wait w.vif.rx s pages) front left
  pub isnt_over : want_of left ≢ want.Done
  pub completed : (t : List Event) × (end : Wait) × Runs left t end

-- The items after the last deed: those of a turn, of a delivery or of a wait that isn't over by them.
pub data IsLeft (w : Wiring) (s : State) : List Item → Type 0 where
  of_turn : (front : List Event) (left : Steps Ending) → IsUnfinished w s front left → IsLeft w s (all_came front)
  of_delivery : (packet : List ℕ) (front : List Event) (left : Steps Arrival) → IsUndelivered w s packet front left →
      IsLeft w s (Given packet ∷ all_came front)
  of_wait : (pages : ℕ) (front : List Event) (left : Steps Wait) → IsUnwaited w s pages front left →
      IsLeft w s (SlotsAwaited pages ∷ all_came front)

-- A queue's items join into these turns, deliveries and waits and a prefix of one more.
pub record IsPart (w : Wiring) (start : ℕ) (items : List Item) (kept : List Kept) (delivered : List Delivered) (waited : List Waited) :
    Type 0 where
  pub deeds : List Deed
  pub end : State
  pub front : List Item
  pub joined : Activities w (started_at start) items deeds end front
  pub turns : kept ≡ turns_in deeds
  pub deliveries : delivered ≡ deliveries_in 0 deeds
  pub waits : waited ≡ waits_in 0 0 deeds
  pub left : IsLeft w end front

-- The queue has halted by these items.
pub record HasHalted (w : Wiring) (start : ℕ) (items : List Item) : Type 0 where
  pub deeds : List Deed
  pub end : State
  pub cause : Halt
  pub halted : end.halt ≡ Some cause
  pub joined : Activities w (started_at start) items deeds end []
