-- Stated: claims rest on this file.
-- What the back's queue has: the traces of its turns, with the copies that these made, the packets and traces of its deliveries, the
-- numbers of slots and the traces of its waits, and a prefix of one more.
use Rattle.std.specs.Prelude.{ℕ, ◌≡◌, true, false, List, [], ◌∷◌, ◌++◌, Option, Some, None}
use Rattle.xen_netif.specs.Chain.{Slot}
use Rattle.xen_steps.specs.Drive.{LedBy}
use Rattle.xen_steps.specs.Event.{Event, Occurs}
use Rattle.xen_steps.specs.Steps.{Runs, Steps, done, ask, never}
use Rattle.xen_turns.specs.Awaited.{IsAwaiting}
use Rattle.xen_netif.specs.declared.offload.RxOffload.TheVariants.{Whole}
use Rattle.xen_turns.specs.Delivered.{IsDelivery}
use Rattle.xen_turns.specs.Deliveries.{whole_delivery}
use Rattle.xen_turns.specs.Tree.{Left, after_run}
use Rattle.xen_turns.specs.Turned.{Ending}
use Rattle.xen_turns.specs.Turns.{HasRun as Ran, IsTurn}
use Rattle.xen_turns.specs.Waits.{whole_wait}
use Rattle.xen_turns.specs.declared.delivery.wait.Awaited.{Awaited}
use Rattle.xen_turns.specs.declared.delivery.delivering.Delivery.{Delivery}
use Rattle.xen_turns.specs.declared.state.State.{State}
use Rattle.xen_turns.specs.declared.wiring.Wiring.{Wiring}
use Rattle.honest_pair.specs.Machine.Halves.{HasRun, half_turn}
use Rattle.xen_buffers.specs.declared.wiring.FrontWiring.{FrontWiring}
use Rattle.xdp_world.specs.Activities.{Given, Item, SlotsAwaited, all_came}
use Rattle.honest_pair.specs.Machine.Log.{back_item, event_by}
use Rattle.honest_pair.specs.Machine.Memory.{Memory, answer}
use Rattle.honest_pair.specs.Machine.Pair.{BackAt, Asleep, First, Second, Delivering, Waiting, Deed, OfTurn, OfDelivery, OfWait, Pair, PairEvent}
use Rattle.honest_pair.specs.Machine.Pair.{BackStep, Past, new_back, step}

-- The trace begins with a look, the reads of a chain, the copy of this packet, and the program's run on it, which left `out`.
pub record HasCopy (w : Wiring) (s : State) (t : List Event) (copy : List ℕ) (out : Left) : Type 0 where
  pub slots : List Slot
  pub front : List Event
  pub rest : List Event
  pub joined : t ≡ front ++ rest
  pub ran : Ran w s front slots out
  pub is : ran.packet ≡ copy

abbrev pub IsCopied : Wiring → State → List Event → Option (List ℕ) → Type 0
IsCopied w s t None = Unit {0}
IsCopied w s t (Some copy) = (out : Left) × HasCopy w s t copy out

-- The items from a state on are the traces of these turns, the packets and traces of these deliveries, and the numbers of slots and traces
-- of these waits, each from the last's state, and what is left after them.
pub data HaveDeeds (w : Wiring) : State → List Item → List Deed → State → List Item → Type 0 where
  begun : (s : State) (front : List Item) → HaveDeeds w s front [] s front
  turned : (s mid end : State) (t : List Event) (more front : List Item) (p : Past) (ds : List Deed) →
      s.halt ≡ None → IsTurn w s t mid p.turn → IsCopied w s t p.copy → HaveDeeds w mid more ds end front →
      HaveDeeds w s (all_came t ++ more) (OfTurn p ∷ ds) end front
  delivered : (s mid end : State) (packet : List ℕ) (t : List Event) (more front : List Item) (what : Delivery) (ds : List Deed) →
      IsDelivery w s Whole packet t mid what → HaveDeeds w mid more ds end front →
      HaveDeeds w s (Given packet ∷ (all_came t ++ more)) (OfDelivery packet what ∷ ds) end front
  waited : (s mid end : State) (pages : ℕ) (t : List Event) (more front : List Item) (answer : Awaited) (ds : List Deed) →
      IsAwaiting w s pages t mid answer → HaveDeeds w mid more ds end front →
      HaveDeeds w s (SlotsAwaited pages ∷ (all_came t ++ more)) (OfWait pages answer ∷ ds) end front

-- In the second half: the first gave a run on this packet.
pub record IsSecond (w : Wiring) (s : State) (packet : List ℕ) (left : Left) (t : Steps Ending) (front : List Event) : Type 0 where
  pub slots : List Slot
  pub first : List Event
  pub rest : List Event
  pub joined : front ≡ first ++ rest
  pub ran : Runs (half_turn w s) first (HasRun slots packet left)
  pub gone : LedBy (after_run w s slots left) rest t

-- Where the back is after these items of a turn, a delivery or a wait.
abbrev pub IsAt : Wiring → State → BackAt → List Item → Type 0
IsAt w s Asleep front = front ≡ []
IsAt w s (First false t) front = (front ≡ []) × (t ≡ half_turn w s)
IsAt w s (First true t) front = (f : List Event) × (front ≡ all_came f) × LedBy (half_turn w s) f t
IsAt w s (Second packet left t) front = (f : List Event) × (front ≡ all_came f) × IsSecond w s packet left t f
IsAt w s (Delivering asleep packet t) front =
    (f : List Event) × (front ≡ Given packet ∷ all_came f) × LedBy (whole_delivery w.vif w.accepts s Whole packet) f t
IsAt w s (Waiting asleep pages t) front =
    (f : List Event) × (front ≡ SlotsAwaited pages ∷ all_came f) × LedBy (whole_wait w.vif.rx s pages) f t

-- The pair's back has come through these items, from rings that began at this index.
pub record Traced (w : Wiring) (start : ℕ) (items : List Item) (p : Pair) : Type 0 where
  pub front : List Item
  pub deeds : HaveDeeds w (new_back start) items p.deeds p.back front
  pub at : IsAt w p.back p.at front

-- By these items it comes from one pair to the next.
abbrev pub Follows : Wiring → Pair → Pair → List Item → Type 0
Follows w p p' items = (start : ℕ) (past : List Item) → Traced w start past p → Traced w start (past ++ items) p'

-- What is asked next is answered by a number of its width.
abbrev pub IsAnswered : {A : Type 0} → Steps A → Memory → ℕ → Type 0
IsAnswered (done x) m n = Unit {0}
IsAnswered (ask v k) m n = (e : Event) × (event_by v (answer v m n) ≡ e ∷ []) × Occurs v (answer v m n) e
IsAnswered never m n = Unit {0}

abbrev pub BackIsAnswered : BackAt → Memory → ℕ → Type 0
BackIsAnswered Asleep m n = Unit {0}
BackIsAnswered (First b t) m n = IsAnswered t m n
BackIsAnswered (Second packet left t) m n = IsAnswered t m n
BackIsAnswered (Delivering asleep packet t) m n = IsAnswered t m n
BackIsAnswered (Waiting asleep pages t) m n = IsAnswered t m n

abbrev pub StepIsAnswered : Pair → PairEvent → ℕ → Type 0
StepIsAnswered p BackStep n = BackIsAnswered p.at p.memory n
StepIsAnswered p e n = Unit {0}

-- Each event of the pair adds to what its back has what the back does in it.
abbrev pub TraceLaw : Type 0
TraceLaw = (bw : Wiring) (fw : FrontWiring) (p : Pair) (e : PairEvent) (n : ℕ) → StepIsAnswered p e n →
    Follows bw p (step bw fw p e n) (back_item p e n)
