-- For proofs: no claim rests on this file.
-- What a step of one of several turns keeps, beside what it asks and what its events lead to.
use Rattle.std.specs.Prelude.{ℕ, ◌≡◌, Bool, true, false, List, ◌++◌}
use Rattle.xen_steps.specs.Event.{Event}
use Rattle.xen_turns.specs.declared.state.State.{State}
use Rattle.xen_turns.specs.declared.wiring.Wiring.{Wiring}
use Rattle.xen_host.specs.Asks.{Ask}
use Rattle.xen_host.specs.Early.{at_rx, engine_at_rx, is_early, is_late}
use Rattle.xen_host.specs.EngineAt.{EngineAt}
use Rattle.xen_host.specs.LaneSteps.{may_run}
use Rattle.xen_host.specs.Lanes.{is_calm, is_filling}
use Rattle.xen_host.specs.UnderWay.{IsTurningAt}

-- `did` are all its events, the withheld push's among them. A stage that may run the program is followed by its run only if the turn is the next.
pub record LaneKeeps (w : Wiring) (next : Bool) (asked : Ask) (old new : EngineAt) (did events : List Event) (last : Ask) : Type 0 where
  pub on : is_early new.stage ≡ false → is_late new.stage ≡ true
  pub late : is_early old.stage ≡ false → is_early new.stage ≡ false
  pub rx : is_filling old.stage ≡ false → is_filling new.stage ≡ false → new.state.rx_index ≡ old.state.rx_index
  pub free : is_early new.stage ≡ true → (x : ℕ) (s : State) (trace : List Event) → IsTurningAt (engine_at_rx x old) (at_rx x s) trace asked →
      IsTurningAt (engine_at_rx x new) (at_rx x s) (trace ++ did) last
  pub calm : is_filling old.stage ≡ false → (may_run old.stage ≡ true → next ≡ false) → is_calm w events ≡ true
