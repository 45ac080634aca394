-- Stated: claims rest on this file.
-- What a world stands for.
use Rattle.bpf_maps.specs.Beginning.{Beginning, IsLegalFrom, left_from}
use Rattle.std.specs.Prelude.{ℕ, ◌≡◌, ◌<◌, ◌++◌, ◌∷◌, List, [], Option, Some, None, true, false, length, slice_get, slice_index_or, vec_len}
use Rattle.std.specs.Prelude.{vec_capacity}
use Rattle.std.specs.Global.{Vec}
use Rattle.bpf_maps.specs.Seats.{total_at}
use Rattle.bpf_note.specs.Shape.{IsCounter}
use Rattle.xen_steps.specs.Event.{Event}
use Rattle.xen_netif.specs.declared.offload.RxOffload.TheVariants.{Whole}
use Rattle.xen_turns.specs.Deliveries.{whole_delivery}
use Rattle.xen_back.specs.Queues.{rest, state_of, wiring_of}
use Rattle.xen_turns.specs.Waits.{whole_wait}
use Rattle.xen_turns.specs.declared.delivery.wait.Awaited.{Awaited}
use Rattle.xen_turns.specs.declared.delivery.delivering.Delivery.{Delivery}
use Rattle.xen_back.specs.declared.delivery.wait_stage.Awaiting.{Awaiting}
use Rattle.xen_back.specs.declared.delivery.underway.Delivering.{Delivering}
use Rattle.xen_back.specs.declared.queue.Queue.{Queue}
use Rattle.xen_turns.specs.declared.wiring.Wiring.{Wiring}
use Rattle.xdp_world.specs.Activities.{Activities, Deed, Item, deliveries_in, turns_in, waits_in}
use Rattle.xdp_world.specs.Calls.{Awaits, Call, Delivers, HaveCome, Stepped, all_stepped, entries_of, items_of}
use Rattle.xdp_world.specs.Carries.{Carries, Lands, Looks, Resumes, delivered_list, doing_after, waited_list}
use Rattle.xdp_world.specs.Core.{IsUnfinished, Turns, started_at}
use Rattle.xdp_world.specs.Doings.{IsAt, is_between, is_call}
use Rattle.xdp_world.specs.Entries.{AllServe, Entry, history, steps_of}
use Rattle.xdp_world.specs.Happens.{Moved, MovedBy, kept_list}
use Rattle.xdp_world.specs.declared.awaiting.WaitBegun.{WaitBegun}
use Rattle.xdp_world.specs.declared.awaiting.WaitBegun.TheVariants as wait_begun
use Rattle.xdp_world.specs.declared.delivering.Begun.{Begun}
use Rattle.xdp_world.specs.declared.delivering.Begun.TheVariants as begun
use Rattle.xdp_world.specs.declared.doing.Doing.{Doing}
use Rattle.xdp_world.specs.declared.doing.Doing.TheVariants as doing
use Rattle.xdp_world.specs.declared.kept.Kept.{Kept}
use Rattle.xdp_world.specs.declared.report.Delivered.{Delivered}
use Rattle.xdp_world.specs.declared.report.Waited.{Waited}
use Rattle.xdp_world.specs.declared.world.World.{World}

abbrev pub kept_of : Option (Vec Kept) → List Kept
kept_of None = []
kept_of (Some v) = v.items

-- The turns of a queue.
abbrev pub kept_in : List (Vec Kept) → ℕ → List Kept
kept_in turns i = kept_of (slice_get turns i)

abbrev pub delivered_of : Option (Vec Delivered) → List Delivered
delivered_of None = []
delivered_of (Some v) = v.items

-- The deliveries of a queue that are over.
abbrev pub delivered_in : List (Vec Delivered) → ℕ → List Delivered
delivered_in deliveries i = delivered_of (slice_get deliveries i)

abbrev pub waited_of : Option (Vec Waited) → List Waited
waited_of None = []
waited_of (Some v) = v.items

-- The waits of a queue that are over.
abbrev pub waited_in : List (Vec Waited) → ℕ → List Waited
waited_in waits i = waited_of (slice_get waits i)

-- What a queue is doing.
abbrev pub doing_in : World → ℕ → Option Doing
doing_in world i = slice_get world.doing.items i

-- No delivery and no wait is under way on the queue.
abbrev pub IsFree : World → ℕ → Type 0
IsFree world i = is_call (doing_in world i) ≡ false

-- A queue's events join into its turns, and what is left leads from the last state to where the queue is.
pub record SoFar (w : Wiring) (start : ℕ) (events : List Event) (kept : List Kept) (q : Queue) : Type 0 where
  pub wired : wiring_of q ≡ w
  pub front : List Event
  pub joined : Turns w (started_at start) events kept (state_of q) front
  pub unfinished : IsUnfinished w (state_of q) front (rest q)

-- A queue's items join into its turns, deliveries and waits, and what is left leads from the last state to where the queue is.
pub record HasCome (w : Wiring) (start : ℕ) (items : List Item) (kept : List Kept) (delivered : List Delivered) (waited : List Waited)
    (q : Queue) (at : Doing) : Type 0 where
  pub wired : wiring_of q ≡ w
  pub deeds : List Deed
  pub front : List Item
  pub joined : Activities w (started_at start) items deeds (state_of q) front
  pub turns : kept ≡ turns_in deeds
  pub deliveries : delivered ≡ deliveries_in 0 deeds
  pub waits : waited ≡ waits_in 0 0 deeds
  pub stands_at : IsAt w q at front

-- The world has come through these calls, from queues with these wirings that began at this index, and from counters that began so.
pub record StandsFor (world : World) (wirings : ℕ → Wiring) (start : ℕ) (begin : Beginning) (cs : List Call) : Type 0 where
  pub each : (i : ℕ) (d : Queue) (e : Doing) → i < length world.queues.items →
      HasCome (wirings i) start (items_of i cs) (kept_in world.turns.items i) (delivered_in world.deliveries.items i)
      (waited_in world.waits.items i) (slice_index_or world.queues.items i d) (slice_index_or world.doing.items i e)
  pub come : HaveCome wirings start cs
  pub serve : AllServe (entries_of cs)
  pub past : world.history.items ≡ history (entries_of cs)
  pub legal : IsLegalFrom begin (history (entries_of cs))
  pub leaves : (m k j : ℕ) → IsCounter world.counters.shapes m k j → total_at world.counters m k j ≡ left_from begin m k j (history (entries_of cs))

-- The world has come through these entries alone: no delivery and no wait was begun.
abbrev pub Stands : World → (ℕ → Wiring) → ℕ → Beginning → List Entry → Type 0
Stands world wirings start begin es = StandsFor world wirings start begin (all_stepped es)

-- The world has done nothing, but for room that it may have taken.
pub record IsSame (old new : World) : Type 0 where
  pub queues : new.queues.items ≡ old.queues.items
  pub doing : new.doing.items ≡ old.doing.items
  pub turns : (i : ℕ) → kept_in new.turns.items i ≡ kept_in old.turns.items i
  pub deliveries : (i : ℕ) → delivered_in new.deliveries.items i ≡ delivered_in old.deliveries.items i
  pub waits : (i : ℕ) → waited_in new.waits.items i ≡ waited_in old.waits.items i
  pub history : new.history.items ≡ old.history.items
  pub counters : new.counters ≡ old.counters

-- The world made one step of a queue, and goes on by its event, if it has one. A turn that is over by it is kept, what became of
-- a packet whose delivery is over by it, and the answer of a wait that is over by it. The queue stays wired, and is inside a turn by its
-- events until that is over.
pub record IsStep (old new : World) (queue answer : ℕ) : Type 0 where
  pub event : Option Event
  pub moved : IsFree old queue → (d : Queue) →
      Moved answer (slice_index_or old.queues.items queue d) event (slice_index_or new.queues.items queue d)
  pub kept : Option Kept
  pub moved_by : IsFree old queue → (d : Queue) →
      MovedBy answer (slice_index_or old.queues.items queue d) event kept (slice_index_or new.queues.items queue d)
  pub wired : (d : Queue) → wiring_of (slice_index_or new.queues.items queue d) ≡ wiring_of (slice_index_or old.queues.items queue d)
  pub doing_by : IsFree old queue → (d : Doing) →
      slice_index_or new.doing.items queue d ≡ doing_after (slice_index_or old.doing.items queue d) event kept
  pub turns : kept_in new.turns.items queue ≡ kept_in old.turns.items queue ++ kept_list kept
  pub delivery : Option Delivery
  pub carried : (a : Delivering) → doing_in old queue ≡ Some (doing.Delivery a) → (d : Queue) (e : Doing) →
      (c : Carries (slice_index_or old.queues.items queue d) a (slice_index_or new.queues.items queue d)
      (slice_index_or new.doing.items queue e) answer delivery) × (event ≡ Some c.event) × (kept ≡ None)
  pub deliveries : delivered_in new.deliveries.items queue ≡
      delivered_in old.deliveries.items queue ++ delivered_list (length (kept_in old.turns.items queue)) delivery
  pub none : IsFree old queue → delivery ≡ None
  pub awaited : Option Awaited
  pub looked : (a : Awaiting) → doing_in old queue ≡ Some (doing.Wait a) → (d : Queue) (e : Doing) →
      (c : Looks (slice_index_or old.queues.items queue d) a (slice_index_or new.queues.items queue d)
      (slice_index_or new.doing.items queue e) answer awaited) × (event ≡ Some c.event) × (kept ≡ None) × (delivery ≡ None)
  pub waits : waited_in new.waits.items queue ≡ waited_in old.waits.items queue ++
      waited_list (length (kept_in old.turns.items queue)) (length (delivered_in old.deliveries.items queue)) awaited
  pub no_wait : ((a : Awaiting) → doing_in old queue ≡ Some (doing.Wait a) → ⊥) → awaited ≡ None
  pub stands : (wirings : ℕ → Wiring) (start : ℕ) (begin : Beginning) (es : List Entry) → Stands old wirings start begin es →
      Stands new wirings start begin (es ++ record { queue = queue; answer = answer; event = event } ∷ [])
  pub stands_for : (wirings : ℕ → Wiring) (start : ℕ) (begin : Beginning) (cs : List Call) → StandsFor old wirings start begin cs →
      StandsFor new wirings start begin (cs ++ Stepped (record { queue = queue; answer = answer; event = event }) ∷ [])

-- The world began to deliver a packet on a queue that was between turns. If the delivery is over by that, what became of it is kept.
pub record HasBegun (old new : World) (queue : ℕ) (packet : List ℕ) (over : Option Delivery) : Type 0 where
  pub between : is_between (doing_in old queue) ≡ true
  pub lands : (d : Queue) (e : Doing) → let q = slice_index_or old.queues.items queue d in
      Lands q (whole_delivery (wiring_of q).vif (wiring_of q).accepts (state_of q) Whole packet) (slice_index_or new.queues.items queue d)
      (slice_index_or new.doing.items queue e) over
  pub wired : (d : Queue) → wiring_of (slice_index_or new.queues.items queue d) ≡ wiring_of (slice_index_or old.queues.items queue d)
  pub turns : kept_in new.turns.items queue ≡ kept_in old.turns.items queue
  pub deliveries : delivered_in new.deliveries.items queue ≡
      delivered_in old.deliveries.items queue ++ delivered_list (length (kept_in old.turns.items queue)) over
  pub waits : waited_in new.waits.items queue ≡ waited_in old.waits.items queue
  pub stands_for : (wirings : ℕ → Wiring) (start : ℕ) (begin : Beginning) (cs : List Call) → StandsFor old wirings start begin cs →
      StandsFor new wirings start begin (cs ++ Delivers queue packet ∷ [])

-- What a host is told that has a packet delivered. Inside a turn, a delivery or a wait nothing is done.
abbrev pub IsDeliver : World → World → ℕ → List ℕ → Begun → Type 0
IsDeliver old new queue packet begun.Busy = (is_between (doing_in old queue) ≡ false) × IsSame old new
IsDeliver old new queue packet begun.Underway = HasBegun old new queue packet None
IsDeliver old new queue packet (begun.Over what) = HasBegun old new queue packet (Some what)

-- The world began a wait for `pages` rx slots on a queue that was between turns. If the wait is over by that, its answer is kept.
pub record HasBegunWait (old new : World) (queue pages : ℕ) (over : Option Awaited) : Type 0 where
  pub between : is_between (doing_in old queue) ≡ true
  pub resumes : (d : Queue) (e : Doing) → let q = slice_index_or old.queues.items queue d in
      Resumes q (whole_wait (wiring_of q).vif.rx (state_of q) pages) (slice_index_or new.queues.items queue d)
      (slice_index_or new.doing.items queue e) over
  pub wired : (d : Queue) → wiring_of (slice_index_or new.queues.items queue d) ≡ wiring_of (slice_index_or old.queues.items queue d)
  pub turns : kept_in new.turns.items queue ≡ kept_in old.turns.items queue
  pub deliveries : delivered_in new.deliveries.items queue ≡ delivered_in old.deliveries.items queue
  pub waits : waited_in new.waits.items queue ≡ waited_in old.waits.items queue ++
      waited_list (length (kept_in old.turns.items queue)) (length (delivered_in old.deliveries.items queue)) over
  pub stands_for : (wirings : ℕ → Wiring) (start : ℕ) (begin : Beginning) (cs : List Call) → StandsFor old wirings start begin cs →
      StandsFor new wirings start begin (cs ++ Awaits queue pages ∷ [])

-- What a host is told that waits for rx slots. Inside a turn, a delivery or a wait nothing is done.
abbrev pub IsAwait : World → World → ℕ → ℕ → WaitBegun → Type 0
IsAwait old new queue pages wait_begun.Busy = (is_between (doing_in old queue) ≡ false) × IsSame old new
IsAwait old new queue pages wait_begun.Underway = HasBegunWait old new queue pages None
IsAwait old new queue pages (wait_begun.Over answer) = HasBegunWait old new queue pages (Some answer)

-- The world goes on by these steps.
abbrev pub GoesOn : World → World → List (ℕ × ℕ) → Type 0
GoesOn old new steps = (wirings : ℕ → Wiring) (start : ℕ) (begin : Beginning) (es : List Entry) → Stands old wirings start begin es →
    (more : List Entry) × (steps_of more ≡ steps) × Stands new wirings start begin (es ++ more)

-- One more can be kept without memory.
abbrev pub HasRoom : {A : Type 0} → Option (Vec A) → Type 0
HasRoom None = Unit {0}
HasRoom (Some v) = vec_len v < vec_capacity v
