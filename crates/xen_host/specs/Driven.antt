-- Stated: claims rest on this file.
-- A whole turn, a whole delivery and a whole wait of an engine over a bus.
use Rattle.std.specs.Prelude.{ℕ, ◌≡◌, false, List, [], Option, Some, map}
use Rattle.bpf_note.specs.declared.op.Op.{Op as Operation}
use Rattle.xdp_program.specs.Tallies.{Went}
use Rattle.xen_netif.specs.declared.offload.RxOffload.{RxOffload}
use Rattle.xen_page.specs.Access.{Performs}
use Rattle.xen_page.specs.declared.access.Access.{Access}
use Rattle.xen_steps.specs.Drive.{accesses}
use Rattle.xen_steps.specs.Event.{Event}
use Rattle.xen_turns.specs.Awaited.{IsAwaiting}
use Rattle.xen_turns.specs.Delivered.{IsDeliverable, IsDelivery}
use Rattle.xen_turns.specs.Drive.{labels}
use Rattle.xen_turns.specs.Turned.{turned}
use Rattle.xen_turns.specs.Turns.{IsTurn}
use Rattle.xen_turns.specs.declared.delivery.delivering.Delivery.{Delivery}
use Rattle.xen_turns.specs.declared.delivery.wait.Awaited.{Awaited}
use Rattle.xen_turns.specs.declared.turn.Kind.{Kind}
use Rattle.xen_host.specs.EngineAt.{EngineAt}
use Rattle.xen_host.specs.Said.{has_run}
use Rattle.xen_host.specs.UnderWay.{packet_at, resting_at}

-- A turn is over. Its events are a row of the table of turns, which ends as this kind; the bus went through their accesses and no
-- others, and the counters through their operations.
pub record HasTurnedAt {B C : Type 0} (log : B → Option (List Access)) (gives : B → Access → B → Type 0)
    (did : Operation → C → C → Type 0) (old new : EngineAt) (kind : Kind) (bus bus' : B) (before after : C) : Type 0 where
  pub trace : List Event
  pub is_turn : IsTurn old.wires old.state trace new.state (turned kind (packet_at new))
  pub performed : Performs log gives bus (accesses trace) bus'
  pub counted : Went did before after (map Some (labels trace))
  pub packet : has_run kind ≡ false → packet_at new ≡ []
  pub rests : resting_at new ≡ Some new.state
  pub wires : new.wires ≡ old.wires

-- A delivery is over. Its events are a row of the table of deliveries; the bus went through their accesses and no others, and no counter
-- changed.
pub record HasDeliveredAt {B C : Type 0} (log : B → Option (List Access)) (gives : B → Access → B → Type 0) (old new : EngineAt)
    (o : RxOffload) (packet : List ℕ) (what : Delivery) (bus bus' : B) (before after : C) : Type 0 where
  pub trace : List Event
  pub is_delivery : IsDelivery old.wires old.state o packet trace new.state what
  pub performed : Performs log gives bus (accesses trace) bus'
  pub counters : after ≡ before
  pub copied : IsDeliverable old.wires.accepts o packet → packet_at new ≡ packet
  pub rests : resting_at new ≡ Some new.state
  pub wires : new.wires ≡ old.wires

-- A wait is over. Its events are a row of the table of waits; the bus went through their accesses and no others, and no counter changed.
pub record HasAwaitedAt {B C : Type 0} (log : B → Option (List Access)) (gives : B → Access → B → Type 0) (old new : EngineAt) (pages : ℕ)
    (what : Awaited) (bus bus' : B) (before after : C) : Type 0 where
  pub trace : List Event
  pub is_awaiting : IsAwaiting old.wires old.state pages trace new.state what
  pub performed : Performs log gives bus (accesses trace) bus'
  pub counters : after ≡ before
  pub packet : packet_at new ≡ packet_at old
  pub rests : resting_at new ≡ Some new.state
  pub wires : new.wires ≡ old.wires
