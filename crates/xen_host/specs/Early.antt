-- Stated: claims rest on this file.
-- A turn has no use of its rx index until its program runs.
use Rattle.std.specs.Prelude.{ℕ, ◌≡◌, Bool, true, false}
use Rattle.xen_steps.specs.Steps.{Steps}
use Rattle.xen_turns.specs.Turned.{Ending}
use Rattle.xen_turns.specs.declared.state.State.{State}
use Rattle.xen_host.specs.EngineAt.{EngineAt}
use Rattle.xen_host.specs.Rest.{rest_in}
use Rattle.xen_host.specs.declared.stage.Stage.{Stage}
use Rattle.xen_host.specs.declared.stage.Stage.TheVariants as stage

-- It reads slots, entries or pages: its program has not run.
abbrev pub is_early : Stage → Bool
is_early (stage.Slot left) = true
is_early (stage.Entry i at) = true
is_early (stage.Page i f frame) = true
is_early g = false

-- Its packet is on its way, it is being answered, or it is over.
abbrev pub is_late : Stage → Bool
is_late stage.Ready = true
is_late (stage.Fill f purpose) = true
is_late (stage.Respond i) = true
is_late stage.Push = true
is_late g = false

-- The same with another rx index.
abbrev pub at_rx : ℕ → State → State
at_rx x s = record s { rx_index = x }

abbrev pub engine_at_rx : ℕ → EngineAt → EngineAt
engine_at_rx x e = record e { state = at_rx x e.state }

-- Its state is still this one, and at each rx index what is left of it is what was left from there.
pub record StaysEarly (from : State → Steps Ending) (s : State) (e : EngineAt) : Type 0 where
  pub state : e.state ≡ s
  pub left : (x : ℕ) → rest_in e.wires (at_rx x s) e.stage e.work ≡ from (at_rx x s)

-- So it is if its program has not run.
abbrev pub EarlyFrom : (State → Steps Ending) → State → EngineAt → Type 0
EarlyFrom from s e = is_early e.stage ≡ true → StaysEarly from s e
