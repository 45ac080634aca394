-- Stated: claims rest on this file.
-- What one step does to a queue, with what it is doing, and to the counters.
use Rattle.std.specs.Prelude.{ℕ, ◌≡◌, ◌≢◌, List, [], ◌∷◌, Option, Some, None, false}
use Rattle.bpf_maps.specs.Seats.{TotalsView}
use Rattle.bpf_note.specs.declared.op.Op.{Op}
use Rattle.xen_steps.specs.Drive.{Goes}
use Rattle.xen_steps.specs.Event.{Event}
use Rattle.xen_steps.specs.Steps.{Steps, done, want_of}
use Rattle.xen_steps.specs.declared.want.Want.TheVariants as want
use Rattle.xen_back.specs.ByEvent.{left_of}
use Rattle.xen_turns.specs.Deliveries.{Arrival}
use Rattle.xen_turns.specs.Drive.{label_of}
use Rattle.xen_back.specs.Queues.{IsReady, rest, state_of}
use Rattle.xen_turns.specs.Waits.{Wait}
use Rattle.xen_back.specs.WaitsByEvent.{left_of_wait}
use Rattle.xen_turns.specs.declared.delivery.wait.Awaited.{Awaited}
use Rattle.xen_turns.specs.declared.delivery.delivering.Delivery.{Delivery}
use Rattle.xen_back.specs.declared.delivery.wait_stage.Awaiting.{Awaiting}
use Rattle.xen_back.specs.declared.delivery.underway.Delivering.{Delivering}
use Rattle.xen_back.specs.declared.queue.Queue.{Queue}
use Rattle.xdp_world.specs.Doings.{is_call}
use Rattle.xdp_world.specs.Entries.{Serves}
use Rattle.xdp_world.specs.Happens.{Happens, Rests}
use Rattle.xdp_world.specs.declared.doing.Doing.{Doing}
use Rattle.xdp_world.specs.declared.doing.Doing.TheVariants as doing
use Rattle.xdp_world.specs.declared.kept.Kept.{Kept}
use Rattle.xdp_world.specs.declared.report.Delivered.{Delivered}
use Rattle.xdp_world.specs.declared.report.Waited.{Waited}

-- The delivery that is over, if one is, after `turns` turns.
abbrev pub delivered_list : ℕ → Option Delivery → List Delivered
delivered_list turns None = []
delivered_list turns (Some what) = record { turns = turns; delivery = what } ∷ []

-- The wait that is over, if one is, after `turns` turns and `deliveries` deliveries.
abbrev pub waited_list : ℕ → ℕ → Option Awaited → List Waited
waited_list turns deliveries None = []
waited_list turns deliveries (Some answer) = record { turns = turns; deliveries = deliveries; awaited = answer } ∷ []

-- A delivery of a queue has come to this: it goes on, or it is over, and then the queue goes on.
abbrev pub Lands : Queue → Steps Arrival → Queue → Doing → Option Delivery → Type 0
Lands old m new after None = (d : Delivering) × (after ≡ doing.Delivery d) × (left_of d ≡ m) × (want_of m ≢ want.Done) ×
    (state_of new ≡ state_of old)
Lands old m new after (Some what) = (after ≡ doing.Between) × (m ≡ done (state_of new, what)) × IsReady new

-- One event of a delivery.
pub record Carries (old : Queue) (from : Delivering) (new : Queue) (after : Doing) (answer : ℕ) (delivery : Option Delivery) : Type 0 where
  pub event : Event
  pub mid : Steps Arrival
  pub goes : Goes (left_of from) event mid
  pub serves : Serves event answer
  pub quiet : label_of event ≡ []
  pub lands : Lands old mid new after delivery

-- A wait of a queue has come to this: it goes on, or it is over, and then the queue goes on.
abbrev pub Resumes : Queue → Steps Wait → Queue → Doing → Option Awaited → Type 0
Resumes old m new after None = (a : Awaiting) × (after ≡ doing.Wait a) × (left_of_wait a ≡ m) × (want_of m ≢ want.Done) ×
    (state_of new ≡ state_of old)
Resumes old m new after (Some answer) = (after ≡ doing.Between) × (m ≡ done (state_of new, answer)) × IsReady new

-- One event of a wait.
pub record Looks (old : Queue) (from : Awaiting) (new : Queue) (after : Doing) (answer : ℕ) (awaited : Option Awaited) : Type 0 where
  pub event : Event
  pub mid : Steps Wait
  pub goes : Goes (left_of_wait from) event mid
  pub serves : Serves event answer
  pub quiet : label_of event ≡ []
  pub resumes : Resumes old mid new after awaited

-- What a queue is doing after an event of a turn.
abbrev pub after_turn : Option Kept → Doing
after_turn None = doing.Turn
after_turn (Some k) = doing.Between

-- What a queue is doing after a step that is none of a delivery's or a wait's: nothing new if it has halted.
abbrev pub doing_after : Doing → Option Event → Option Kept → Doing
doing_after before None kept = before
doing_after before (Some e) kept = after_turn kept

-- One event of a turn.
abbrev pub TurnMoves : (old new : Queue) (after : Doing) (c d : TotalsView) (answer : ℕ) (op : Option Op) (kept : Option Kept)
    (delivery : Option Delivery) (awaited : Option Awaited) → Type 0
TurnMoves old new after c d answer op kept delivery awaited =
    Happens old new c d answer op kept × (after ≡ after_turn kept) × (delivery ≡ None) × (awaited ≡ None)

-- One step, with its event, its counter operation, and the turn, the delivery or the wait that is over by it: a queue that has halted does
-- nothing; a turn goes on; a delivery goes on; a wait goes on.
pub data Moves (old new : Queue) (before after : Doing) (c d : TotalsView) (answer : ℕ) : Option Event → Option Op → Option Kept →
    Option Delivery → Option Awaited → Type 0 where
  rests : is_call (Some before) ≡ false → want_of (rest old) ≡ want.Done → after ≡ before → Rests old new c d →
      Moves old new before after c d answer None None None None None
  turns : (op : Option Op) (kept : Option Kept) → is_call (Some before) ≡ false → after ≡ after_turn kept →
      (v : Happens old new c d answer op kept) → Moves old new before after c d answer (Some v.event) op kept None None
  carries : (a : Delivering) (delivery : Option Delivery) → before ≡ doing.Delivery a → d ≡ c →
      (v : Carries old a new after answer delivery) → Moves old new before after c d answer (Some v.event) None None delivery None
  looks : (a : Awaiting) (awaited : Option Awaited) → before ≡ doing.Wait a → d ≡ c →
      (v : Looks old a new after answer awaited) → Moves old new before after c d answer (Some v.event) None None None awaited
