-- Stated: claims rest on this file.
-- A wait for rx slots as a computation that asks, for a host that serves each event itself.
use Rattle.std.specs.Prelude.{ℕ}
use Rattle.xen_steps.specs.Steps.{Steps, done}
use Rattle.xen_back.specs.declared.delivery.wait_stage.Looking.{Looking}
use Rattle.xen_back.specs.declared.delivery.wait_stage.Looking.TheVariants as looking
use Rattle.xen_turns.specs.declared.state.State.{State}
use Rattle.xen_turns.specs.Waits.{Wait, final_check, last_read}

-- What is left of a wait that came so far.
abbrev pub rest_looking : ℕ → State → ℕ → Looking → Steps Wait
rest_looking rx s wanted looking.Index = final_check rx s wanted
rest_looking rx s wanted looking.Producer = last_read rx s wanted
rest_looking rx s wanted (looking.Over after what) = done (after, what)
