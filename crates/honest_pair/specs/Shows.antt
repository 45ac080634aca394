-- For proofs: no claim rests on this file.
-- What a pair of the code stands for.
use Rattle.bpf_maps.specs.Beginning.{Beginning}
use Rattle.std.specs.Prelude.{ℕ, ◌≡◌, ◌<◌, ◌^◌, ◌++◌, Bool, true, false, List, [], ◌∷◌, map, slice_index_or}
use Rattle.std.specs.Prelude.{Option, Some, None}
use Rattle.xen_steps.specs.Steps.{Steps, done, ask, never, bind}
use Rattle.xen_back.specs.ByEvent.{left_of}
use Rattle.xen_back.specs.WaitsByEvent.{left_of_wait}
use Rattle.xen_turns.specs.declared.delivery.wait.Awaited.{Awaited}
use Rattle.xen_turns.specs.declared.delivery.wait.Awaited.TheVariants as awaited
use Rattle.xen_back.specs.declared.delivery.wait_stage.Awaiting.{Awaiting}
use Rattle.xen_back.specs.Queues.{rest, state_of, wiring_of}
use Rattle.xen_turns.specs.Tree.{whole_turn}
use Rattle.xen_back.specs.declared.delivery.underway.Delivering.{Delivering as Carried}
use Rattle.xen_back.specs.declared.queue.Queue.{Queue}
use Rattle.xen_turns.specs.declared.state.State.{State as BackState}
use Rattle.xen_turns.specs.declared.wiring.Wiring.{Wiring as BackWiring}
use Rattle.xen_buffers.specs.declared.wiring.FrontWiring.{FrontWiring}
use Rattle.xen_front.specs.Fronts.{busy, rest as front_rest, state_of as front_state, wiring_of as front_wiring}
use Rattle.xen_front.specs.Given.{Given}
use Rattle.xen_front.specs.declared.front.Front.{Front}
use Rattle.xen_front.specs.declared.state.FrontState.{FrontState}
use Rattle.honest_pair.specs.Machine.Halves.{Half, Over, HasRun, second_half}
use Rattle.honest_pair.specs.Machine.Law.{IsBytes}
use Rattle.honest_pair.specs.Machine.Log.{back_item, back_items, log}
use Rattle.honest_pair.specs.Machine.Pair.{Activity, Free, Sending, Posting, Polling, BackAt, Asleep, First, Second, Delivering, Waiting, Pair}
use Rattle.honest_pair.specs.Machine.Pair.{PairEvent, packets_of, run, step, turns_of}
use Rattle.honest_pair.specs.declared.awaits.Awaits.{Awaits}
use Rattle.honest_pair.specs.declared.awaits.Awaits.TheVariants as awaits
use Rattle.honest_pair.specs.Machine.Acts.{ActIsAnswered, ActsOn, front_of}
use Rattle.honest_pair.specs.Machine.Traces.{Follows}
use Rattle.xdp_world.specs.Activities.{Item}
use Rattle.xdp_world.specs.Calls.{Call, items_of}
use Rattle.xdp_world.specs.Stands.{StandsFor, delivered_in, kept_in, waited_in}
use Rattle.xdp_world.specs.declared.doing.Doing.{Doing}
use Rattle.xdp_world.specs.declared.doing.Doing.TheVariants as doing
use Rattle.xdp_world.specs.declared.kept.Kept.{Kept}
use Rattle.xdp_world.specs.declared.kept.Kept.TheVariants as kept
use Rattle.xdp_world.specs.declared.report.Waited.{Waited}
use Rattle.xdp_world.specs.declared.world.World.{World}
use Rattle.honest_pair.specs.Deeds.{AllKept, AreOwn, bytes_in, deliveries_of, waits_of}
use Rattle.honest_pair.specs.Held.{memory_in}
use Rattle.honest_pair.specs.Runs.{GoWith}
use Rattle.honest_pair.specs.declared.calling.Calling.{Calling}
use Rattle.honest_pair.specs.declared.calling.Calling.TheVariants as calling
use Rattle.honest_pair.specs.declared.pair.Pair.{Pair as Held}

-- It isn't over.
abbrev pub IsGoing : {A : Type 0} → Steps A → Type 0
IsGoing (done x) = ⊥
IsGoing (ask w k) = Unit {0}
IsGoing never = Unit {0}

-- A first half isn't over, unless the whole turn is.
abbrev pub IsHalfGoing : Steps Half → Type 0
IsHalfGoing (done (Over e)) = Unit {0}
IsHalfGoing (done (HasRun slots packet left)) = ⊥
IsHalfGoing (ask w k) = Unit {0}
IsHalfGoing never = Unit {0}

abbrev pub FrontShows : Front → Activity → FrontState → Type 0
FrontShows f Free s = (front_state f ≡ s) × (busy f ≡ false)
FrontShows f (Sending t) s = (front_rest f ≡ t) × IsGoing t
FrontShows f (Posting t) s = (front_rest f ≡ t) × IsGoing t
FrontShows f (Polling t) s = (front_rest f ≡ t) × IsGoing t

-- What the queue does inside a turn's first half, which is begun or not.
abbrev pub doing_first : Bool → Doing
doing_first true = doing.Turn
doing_first false = doing.Between

-- The queue has what is left, and the pair knows whether it sleeps and what it does for its host.
abbrev pub BackShows : BackWiring → Queue → Doing → (asleep : Bool) → Calling → BackAt → BackState → Type 0
BackShows w q e asleep calls Asleep s =
    (asleep ≡ true) × (calls ≡ calling.Nothing) × (e ≡ doing.Between) × (rest q ≡ whole_turn (wiring_of q) (state_of q)) × (state_of q ≡ s)
BackShows w q e asleep calls (First begun t) s =
    (asleep ≡ false) × (calls ≡ calling.Nothing) × (e ≡ doing_first begun) × (rest q ≡ bind t (second_half w s)) × IsHalfGoing t ×
    (state_of q ≡ s)
BackShows w q e asleep calls (Second packet left t) s =
    (asleep ≡ false) × (calls ≡ calling.Nothing) × (e ≡ doing.Turn) × (rest q ≡ t) × IsGoing t × (state_of q ≡ s)
BackShows w q e asleep calls (Delivering sleeps packet t) s =
    (asleep ≡ sleeps) × (calls ≡ calling.Delivery) × (d : Carried) × (e ≡ doing.Delivery d) × (left_of d ≡ t) × IsGoing t ×
    (state_of q ≡ s)
BackShows w q e asleep calls (Waiting sleeps pages t) s =
    (asleep ≡ sleeps) × (calls ≡ calling.Wait pages) × (a : Awaiting) × (e ≡ doing.Wait a) × (left_of_wait a ≡ t) × IsGoing t ×
    (state_of q ≡ s)

abbrev pub queue_in : World → Queue → Queue
queue_in w d = slice_index_or w.queues.items 0 d

abbrev pub doing_at : World → Doing → Doing
doing_at w d = slice_index_or w.doing.items 0 d

pub record Shows (bw : BackWiring) (fw : FrontWiring) (held : Held) (p : Pair) : Type 0 where
  pub memory : memory_in held.memory ≡ p.memory
  pub front_wired : front_wiring held.front ≡ fw
  pub front : FrontShows held.front p.activity p.front
  pub back_wired : (d : Queue) → wiring_of (queue_in held.world d) ≡ bw
  pub back : (d : Queue) (e : Doing) → BackShows bw (queue_in held.world d) (doing_at held.world e) held.asleep held.calling p.at p.back
  pub received : map bytes_in held.received.items ≡ p.received
  pub turns : AllKept (turns_of p.deeds) (kept_in held.world.turns.items 0)
  pub deliveries : delivered_in held.world.deliveries.items 0 ≡ deliveries_of 0 p.deeds
  pub waits : waited_in held.world.waits.items 0 ≡ waits_of 0 0 p.deeds

-- The world has come on by calls of its one queue with these items.
pub record GoesOn (old new : World) (items : List Item) : Type 0 where
  pub shapes : new.counters.shapes ≡ old.counters.shapes
  pub stands : (wirings : ℕ → BackWiring) (start : ℕ) (begin : Beginning) (cs : List Call) → StandsFor old wirings start begin cs →
      (more : List Call) × StandsFor new wirings start begin (cs ++ more) × AreOwn more × (items_of 0 more ≡ items)

-- The pair has done this event.
pub record Does (old new : Held) (e : PairEvent) : Type 0 where
  pub bytes : IsBytes e
  pub does : (bw : BackWiring) (fw : FrontWiring) (p : Pair) → Shows bw fw old p →
      (n : ℕ) × (n < 2 ^ 64) × Shows bw fw new (step bw fw p e n) × GoesOn old.world new.world (back_item p e n)
      × Follows bw p (step bw fw p e n) (back_item p e n) × ActIsAnswered p e n

-- The activity is over: its packet is kept, and the front is free.
pub record Received (old new : Held) : Type 0 where
  pub given : Given
  pub over : front_rest old.front ≡ done (front_state new.front, given)
  pub free : busy new.front ≡ false
  pub front_wired : front_wiring new.front ≡ front_wiring old.front
  pub world : new.world ≡ old.world
  pub memory : new.memory ≡ old.memory
  pub asleep : new.asleep ≡ old.asleep
  pub calls : new.calling ≡ old.calling
  pub received : map bytes_in new.received.items ≡ map bytes_in old.received.items ++ packets_of given

-- Whether a turn is idle.
abbrev pub is_idle : Option Kept → Bool
is_idle None = false
is_idle (Some kept.Idle) = true
is_idle (Some (kept.Ran action number packet ops slots)) = false
is_idle (Some (kept.Refused cause ops slots)) = false
is_idle (Some (kept.Halted cause)) = false

-- The answer of a wait.
abbrev pub answer_of : Option Waited → Option Awaited
answer_of None = None
answer_of (Some w) = Some w.awaited

abbrev pub is_none : {A : Type 0} → Option A → Bool
is_none None = true
is_none (Some x) = false

-- What the back does for its host after an event of a call that goes on, or doesn't.
abbrev pub calls_while : Calling → (going : Bool) → Calling
calls_while call true = call
calls_while call false = calling.Nothing

-- What it awaits after an event of a wait: it has asked, and if the wait is over it knows whether there are fewer.
abbrev pub awaits_after : (index pages : ℕ) → Option Awaited → Awaits
awaits_after index pages None = awaits.Asked index pages
awaits_after index pages (Some awaited.Posted) = awaits.Nothing
awaits_after index pages (Some awaited.Waiting) = awaits.Fewer index pages
awaits_after index pages (Some (awaited.Halted cause)) = awaits.Asked index pages

abbrev pub AllBytes : List PairEvent → Type 0
AllBytes [] = Unit {0}
AllBytes (e ∷ es) = IsBytes e × AllBytes es

-- The pair has done these events.
pub record HasDone (old new : Held) (es : List PairEvent) : Type 0 where
  pub bytes : AllBytes es
  pub does : (bw : BackWiring) (fw : FrontWiring) (p : Pair) → Shows bw fw old p →
      (given : List (PairEvent × ℕ)) × GoWith es given × Shows bw fw new (run bw fw p given) ×
      GoesOn old.world new.world (back_items bw fw p given)
      × Follows bw p (run bw fw p given) (back_items bw fw p given) × ActsOn fw p (run bw fw p given) (front_of (log bw fw p given))
