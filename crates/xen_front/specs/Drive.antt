-- Stated: claims rest on this file.
-- A whole activity over a bus.
use Rattle.std.specs.Prelude.{◌≡◌, List, Option, false}
use Rattle.xen_page.specs.Access.{Performs}
use Rattle.xen_page.specs.declared.access.Access.{Access}
use Rattle.xen_steps.specs.Drive.{accesses}
use Rattle.xen_steps.specs.Event.{Event}
use Rattle.xen_steps.specs.Steps.{Runs}
use Rattle.xen_front.specs.Fronts.{busy, rest, state_of, wiring_of}
use Rattle.xen_front.specs.Given.{Given, Shows}
use Rattle.xen_front.specs.declared.front.Front.{Front}
use Rattle.xen_front.specs.declared.turn.RxTurn.{RxTurn}

-- An activity is over: its trace is a run of what was left, and its accesses are the bus's.
pub record IsDriven {S : Type 0} (log : S → Option (List Access)) (gives : S → Access → S →
    Type 0) (old new : Front) (shown : RxTurn) (bus bus' : S) : Type 0 where
  pub trace : List Event
  pub given : Given
  pub run : Runs (rest old) trace (state_of new, given)
  pub performed : Performs log gives bus (accesses trace) bus'
  pub shows : Shows given shown
  pub ready : busy new ≡ false
  pub same : wiring_of new ≡ wiring_of old
