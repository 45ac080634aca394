-- Stated: claims rest on this file.
-- A run of a world's events, deliveries and waits among them.
use Rattle.bpf_maps.specs.Beginning.{Beginning, given}
use Rattle.std.specs.Prelude.{ℕ, ◌≡◌, ◌≢◌, ◌<◌, List, [], ◌∷◌, ◌++◌, Option, length}
use Rattle.std.specs.Global.{Vec}
use Rattle.bpf_verify.specs.Consistent.{Accepted}
use Rattle.xen_steps.specs.Event.{Event}
use Rattle.xen_turns.specs.declared.state.State.{State}
use Rattle.xen_turns.specs.declared.wiring.Wiring.{Wiring}
use Rattle.xdp_world.specs.Activities.{Activities, Deed, IsLeft, Item}
use Rattle.xdp_world.specs.Begin.{IsFor}
use Rattle.xdp_world.specs.Calls.{Awaits, Call, Delivers, Stepped, items_of}
use Rattle.xdp_world.specs.Core.{started_at}
use Rattle.xdp_world.specs.Report.{Tells}
use Rattle.xdp_world.specs.Stands.{StandsFor}
use Rattle.xdp_world.specs.declared.happening.WorldEvent.{WorldEvent}
use Rattle.xdp_world.specs.declared.happening.WorldEvent.TheVariants as event
use Rattle.xdp_world.specs.declared.report.Report.{Report}
use Rattle.xdp_world.specs.declared.world.World.{World}

abbrev pub queue_of : WorldEvent → ℕ
queue_of (event.Step queue answer) = queue
queue_of (event.Deliver queue packet) = queue
queue_of (event.Await queue pages) = queue

-- The queue is inside a turn, a delivery or a wait by these items.
pub record IsInside (w : Wiring) (start : ℕ) (items : List Item) : Type 0 where
  pub deeds : List Deed
  pub end : State
  pub front : List Item
  pub joined : Activities w (started_at start) items deeds end front
  pub begun : front ≢ []
  pub left : IsLeft w end front

-- What the events come to, as calls after earlier ones: each step is a call, and each packet and each wait, but one for a queue that is
-- inside a turn, a delivery or a wait by the calls before it.
pub data Makes (wirings : ℕ → Wiring) (start : ℕ) : List Call → List WorldEvent → List Call → Type 0 where
  none : (before : List Call) → Makes wirings start before [] []
  step : (before : List Call) (queue answer : ℕ) (came : Option Event) (es : List WorldEvent) (cs : List Call) →
      Makes wirings start (before ++ Stepped (record { queue = queue; answer = answer; event = came }) ∷ []) es cs →
      Makes wirings start before (event.Step queue answer ∷ es) (Stepped (record { queue = queue; answer = answer; event = came }) ∷ cs)
  deliver : (before : List Call) (queue : ℕ) (packet : Vec ℕ) (es : List WorldEvent) (cs : List Call) →
      Makes wirings start (before ++ Delivers queue packet.items ∷ []) es cs →
      Makes wirings start before (event.Deliver queue packet ∷ es) (Delivers queue packet.items ∷ cs)
  busy : (before : List Call) (queue : ℕ) (packet : Vec ℕ) (es : List WorldEvent) (cs : List Call) →
      IsInside (wirings queue) start (items_of queue before) → Makes wirings start before es cs →
      Makes wirings start before (event.Deliver queue packet ∷ es) cs
  await : (before : List Call) (queue pages : ℕ) (es : List WorldEvent) (cs : List Call) →
      Makes wirings start (before ++ Awaits queue pages ∷ []) es cs →
      Makes wirings start before (event.Await queue pages ∷ es) (Awaits queue pages ∷ cs)
  await_busy : (before : List Call) (queue pages : ℕ) (es : List WorldEvent) (cs : List Call) →
      IsInside (wirings queue) start (items_of queue before) → Makes wirings start before es cs →
      Makes wirings start before (event.Await queue pages ∷ es) cs

-- The world goes on by these events.
abbrev pub GoesBy : World → World → List WorldEvent → Type 0
GoesBy old new es = (wirings : ℕ → Wiring) (start : ℕ) (begin : Beginning) (cs : List Call) → StandsFor old wirings start begin cs →
    (more : List Call) × Makes wirings start cs es more × StandsFor new wirings start begin (cs ++ more)

-- The report of a run of a program's queues through these events.
pub record IsWorldRun (program : Accepted) (queues ifindex start : ℕ) (es : List WorldEvent) (r : Report) : Type 0 where
  pub wirings : ℕ → Wiring
  pub wired : (i : ℕ) → i < queues → IsFor program [] queues ifindex i (wirings i)
  pub calls : List Call
  pub made : Makes wirings start [] es calls
  pub count : length r.turns.items ≡ queues
  pub delivered : length r.deliveries.items ≡ queues
  pub waited : length r.waits.items ≡ queues
  pub shapes : r.totals.shapes ≡ program.shapes
  pub tells : Tells wirings start (given program.shapes []) calls r
