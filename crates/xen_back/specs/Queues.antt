-- Stated: claims rest on this file.
-- What contracts see of a queue.
use Rattle.std.specs.Prelude.{ℕ, ◌≡◌, ◌≢◌, List, Some}
use Rattle.xen_steps.specs.Answers.{number}
use Rattle.xen_page.specs.Mapping.{Mapping}
use Rattle.xen_steps.specs.Event.{Event}
use Rattle.xen_steps.specs.declared.want.Answer.{Answer}
use Rattle.xen_steps.specs.declared.want.Want.{Want}
use Rattle.xen_steps.specs.declared.want.Want.TheVariants as wants
use Rattle.xen_back.specs.Rest.{rest_of_stage}
use Rattle.xen_steps.specs.Steps.{Runs, Steps, done, next, want_of}
use Rattle.xen_turns.specs.Within.{may_want}
use Rattle.xen_turns.specs.Turned.{Ending, IsShort, Turned, Shows}
use Rattle.xen_back.specs.declared.by_event.phase.Phase.TheVariants as phase
use Rattle.xen_back.specs.declared.queue.Queue.{Queue}
use Rattle.xen_back.specs.declared.by_event.stage.Stage.TheVariants as stage
use Rattle.xen_turns.specs.declared.state.State.{State}
use Rattle.xen_turns.specs.declared.turn.Turn.{Turn}
use Rattle.xen_turns.specs.declared.wiring.Wiring.{Wiring}

abbrev pub state_of : Queue → State
state_of q = q.engine.state

abbrev pub wiring_of : Queue → Wiring
wiring_of q = q.wiring

-- The mappings of the tx ring's page and of the rx ring's page.
abbrev pub tx_ring_of : Queue → Mapping
tx_ring_of q = q.tx_ring

abbrev pub rx_ring_of : Queue → Mapping
rx_ring_of q = q.rx_ring

-- Two queues are wired alike, over the same mappings.
pub record IsSameWiring (old new : Queue) : Type 0 where
  pub wiring : wiring_of new ≡ wiring_of old
  pub tx_ring : tx_ring_of new ≡ tx_ring_of old
  pub rx_ring : rx_ring_of new ≡ rx_ring_of old

-- What is left of its turn.
abbrev pub rest : Queue → Steps Ending
rest q = rest_of_stage q.wiring q.engine.state q.stage

-- Between turns.
abbrev pub IsReady : Queue → Type 0
IsReady q = (p : List ℕ) × (q.stage ≡ Some (stage.At p phase.Ready))

-- A queue that was fed an answer: what it has left is what follows that answer.
pub record IsFed (answer : Answer) (old new : Queue) : Type 0 where
  pub rest : rest new ≡ next (rest old) (number answer)
  pub state : state_of new ≡ state_of old
  pub same : IsSameWiring old new

-- A queue that was asked what it wants.
pub record IsAsked (wanted : Want) (old new : Queue) : Type 0 where
  pub want : wanted ≡ want_of (rest old)
  pub within : wanted ≢ wants.Done → may_want (wiring_of old) wanted
  pub rest : rest new ≡ rest old
  pub state : state_of new ≡ state_of old
  pub same : IsSameWiring old new

-- A way to the turn's end.
abbrev pub HasRest : Queue → Type 0
HasRest q = (t : List Event) × (end : Ending) × Runs (rest q) t end

-- The turn is over, and the next begins.
pub record IsOver (old new : Queue) (shown : Turn) : Type 0 where
  pub turned : Turned
  pub over : rest old ≡ done (state_of new, turned)
  pub ready : IsReady new
  pub same : IsSameWiring old new
  pub shows : Shows turned shown
  pub short : IsShort shown
