-- Stated: claims rest on this file.
-- A whole turn over a bus and a seat.
use Rattle.std.specs.Prelude.{◌≡◌, List, ◌++◌, Option}
use Rattle.bpf_note.specs.declared.op.Op.{Op}
use Rattle.xen_page.specs.Access.{Performs}
use Rattle.xen_page.specs.declared.access.Access.{Access}
use Rattle.xen_steps.specs.Drive.{accesses}
use Rattle.xen_steps.specs.Event.{Event}
use Rattle.xen_back.specs.Queues.{state_of, wiring_of, IsReady, IsSameWiring}
use Rattle.xen_turns.specs.Turned.{IsShort, Shows, Turned}
use Rattle.xen_turns.specs.Turns.{IsTurn}
use Rattle.xen_back.specs.declared.queue.Queue.{Queue}
use Rattle.xen_turns.specs.declared.turn.Turn.{Turn}
use Rattle.xen_turns.specs.Drive.{labels}

-- A turn is over: its trace is a turn's, its accesses are the bus's, and its labels are what the seat's operations grew by.
pub record IsTurnOver {S : Type 0} (log : S → Option (List Access)) (gives : S → Access → S →
    Type 0) (old new : Queue) (shown : Turn) (bus bus' : S) (ops ops' : List Op) : Type 0 where
  pub trace : List Event
  pub turned : Turned
  pub is_turn : IsTurn (wiring_of old) (state_of old) trace (state_of new) turned
  pub performed : Performs log gives bus (accesses trace) bus'
  pub grown : ops' ≡ ops ++ labels trace
  pub shows : Shows turned shown
  pub short : IsShort shown
  pub ready : IsReady new
  pub same : IsSameWiring old new
