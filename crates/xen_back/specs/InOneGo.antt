-- For proofs: no claim rests on this file.
-- A turn that was taken in one go over a bus.
use Rattle.std.specs.Prelude.{◌≡◌, List, ◌++◌, Option}
use Rattle.xdp_program.specs.declared.tallies.Seated.{Seated}
use Rattle.xen_page.specs.Access.{Performs}
use Rattle.xen_page.specs.declared.access.Access.{Access}
use Rattle.xen_steps.specs.Drive.{accesses}
use Rattle.xen_steps.specs.Event.{Event}
use Rattle.xen_turns.specs.Drive.{labels}
use Rattle.xen_turns.specs.Turned.{turned}
use Rattle.xen_turns.specs.Turns.{IsTurn}
use Rattle.xen_turns.specs.declared.turn.Kind.{Kind}
use Rattle.xen_back.specs.Queues.{IsSameWiring, state_of, wiring_of}
use Rattle.xen_back.specs.Rest.{packet_of_stage}
use Rattle.xen_back.specs.declared.queue.Queue.{Queue}

-- A turn is over, which ended as this kind: its trace is a turn's, its accesses are the bus's, and its labels are what the seat's operations
-- grew by.
pub record IsTaken {S : Type 0} (log : S → Option (List Access)) (gives : S → Access → S → Type 0) (old new : Queue) (kind : Kind)
    (bus bus' : S) (before after : Seated) : Type 0 where
  pub trace : List Event
  pub is_turn : IsTurn (wiring_of old) (state_of old) trace (state_of new) (turned kind (packet_of_stage new.stage))
  pub performed : Performs log gives bus (accesses trace) bus'
  pub grown : after.seat.now ≡ record before.seat.now { ops = before.seat.now.ops ++ labels trace }
  pub same : IsSameWiring old new
