-- Stated: claims rest on this file.
-- A run of several queues: each queue's events join into turns, and a prefix of one more.
use Rattle.std.specs.Prelude.{ℕ, ◌≡◌, ◌≢◌, List, [], ◌∷◌, ◌++◌, Some, None, slice_get, take}
use Rattle.xen_steps.specs.Drive.{LedBy}
use Rattle.xen_steps.specs.Event.{Event}
use Rattle.xen_steps.specs.Steps.{Runs, Steps, want_of}
use Rattle.xen_turns.specs.Tree.{whole_turn}
use Rattle.xen_turns.specs.Turned.{Ending, Turned}
use Rattle.xen_turns.specs.Turns.{IsTurn}
use Rattle.xen_turns.specs.declared.state.State.{State}
use Rattle.xen_turns.specs.declared.turn.Halt.{Halt}
use Rattle.xen_steps.specs.declared.want.Want.TheVariants as want
use Rattle.xen_turns.specs.declared.wiring.Wiring.{Wiring}
use Rattle.xdp_world.specs.Entries.{Entry, events_of}
use Rattle.xdp_world.specs.Keeping.{Keeps}
use Rattle.xdp_world.specs.declared.kept.Kept.{Kept}

-- Both rings begin at this index.
abbrev pub started_at : ℕ → State
started_at start = record { tx_index = start; rx_index = start; halt = None }

-- A queue's events from a state on: the traces of turns, each from the last's state, and what is left after them. No turn follows a halt.
pub data Turns (w : Wiring) : State → List Event → List Kept → State → List Event → Type 0 where
  begun : (s : State) (front : List Event) → Turns w s front [] s front
  turned : (s mid end : State) (t more front : List Event) (u : Turned) (k : Kept) (ks : List Kept) →
      s.halt ≡ None → IsTurn w s t mid u → Keeps u k → Turns w mid more ks end front →
      Turns w s (t ++ more) (k ∷ ks) end front

-- The events after the last turn: events with which one more turn begins, and which isn't over by them; none if the queue has halted.
pub record IsUnfinished (w : Wiring) (s : State) (front : List Event) (left : Steps Ending) : Type 0 where
  pub gone : LedBy (whole_turn w s) front left
  pub isnt_over : s.halt ≡ None → want_of left ≢ want.Done
  pub stopped : (cause : Halt) → s.halt ≡ Some cause → front ≡ []
  pub completed : (t : List Event) × (end : Ending) × Runs left t end

-- The queue has halted by these events.
pub record IsHalted (w : Wiring) (start : ℕ) (events : List Event) : Type 0 where
  pub kept : List Kept
  pub end : State
  pub cause : Halt
  pub halted : end.halt ≡ Some cause
  pub joined : Turns w (started_at start) events kept end []

-- Each step has its event, but those of queues that had halted before it.
abbrev pub HaveEvents : (ℕ → Wiring) → ℕ → List Entry → Type 0
HaveEvents wirings start es = (i : ℕ) (e : Entry) → slice_get es i ≡ Some e → e.event ≡ None →
    IsHalted (wirings e.queue) start (events_of e.queue (take i es))
