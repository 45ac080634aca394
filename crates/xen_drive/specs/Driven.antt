-- Stated: claims rest on this file.
-- A whole turn, a whole delivery and a whole wait of a queue whose accesses a host makes, from the call that begins it to its last op.
use Rattle.std.specs.Prelude.{ℕ, ◌≡◌, ◌≤◌, false, List, [], Option, Some, length, map}
use Rattle.xdp_program.specs.Ran.{IsHistory}
use Rattle.xen_netif.specs.declared.offload.RxOffload.{RxOffload}
use Rattle.xen_page.specs.Access.{Performs}
use Rattle.xen_page.specs.declared.access.Access.{Access}
use Rattle.xen_steps.specs.Drive.{accesses}
use Rattle.xen_steps.specs.Event.{Event, Read}
use Rattle.xen_rx_fill.specs.Places.{rx_word, tx_word}
use Rattle.xen_turns.specs.Awaited.{IsAwaiting}
use Rattle.xen_turns.specs.Delivered.{IsDeliverable, IsDelivery}
use Rattle.xen_turns.specs.Drive.{labels}
use Rattle.xen_turns.specs.Turned.{turned}
use Rattle.xen_turns.specs.Turns.{IsTurn}
use Rattle.xen_turns.specs.declared.delivery.delivering.Delivery.{Delivery}
use Rattle.xen_turns.specs.declared.delivery.wait.Awaited.{Awaited}
use Rattle.xen_turns.specs.declared.turn.Kind.{Kind}
use Rattle.xen_host.specs.Queues.{BegunBy, HasStepped, IsBegun, IsWaitBegun, packet_of, resting, wiring, wired_to}
use Rattle.xen_host.specs.UnderWay.{first_read}
use Rattle.xen_host.specs.Said.{has_run}
use Rattle.xen_host.specs.declared.op.HostOp.{HostOp}
use Rattle.xen_host.specs.declared.queue.Queue.{Queue}
use Rattle.xen_drive.specs.Hosts.{Held}

-- ---- what begins

-- A turn has begun between two, with what the host read of the tx producer. A queue that has halted has no use of that read.
pub record BeginsTurn {S : Type 0} (log : S → Option (List Access)) (gives : S → Access → S → Type 0) (old : Queue) (bus : S)
    (before : List ℕ) (h : Held S) : Type 0 where
  pub producer : ℕ
  pub performed : Performs log gives bus (accesses (first_read old.engine.state.halt (Read (tx_word (wiring old).vif 0) producer))) h.bus
  pub ops : List HostOp
  pub ops_after : List HostOp
  pub count : ℕ
  pub begun : BegunBy old h.queue producer ops ops_after count h.lent
  pub page : 1024 ≤ length h.lent
  pub counters : h.counters ≡ before
  pub first : h.first ≡ begun.first
  pub last : h.last ≡ begun.last

-- The first step of what has begun, before which nothing was asked.
pub record IsFirstStep {S : Type 0} (begun : Queue) (before : List ℕ) (h : Held S) : Type 0 where
  pub lent : List ℕ
  pub ops : List HostOp
  pub ops_after : List HostOp
  pub count : ℕ
  pub stepped : HasStepped begun h.queue lent h.lent before h.counters ops ops_after count
  pub page : 1024 ≤ length h.lent
  pub first : h.first ≡ stepped.first
  pub last : h.last ≡ stepped.last

-- The delivery of a packet has begun, with what the host read of the rx producer, and has taken its first step.
pub record BeginsDelivery {S : Type 0} (log : S → Option (List Access)) (gives : S → Access → S → Type 0) (old : Queue) (o : RxOffload)
    (packet : List ℕ) (bus : S) (before : List ℕ) (h : Held S) : Type 0 where
  pub producer : ℕ
  pub performed : Performs log gives bus (accesses (first_read old.engine.state.halt (Read (rx_word (wiring old).vif 0) producer))) h.bus
  pub mid : Queue
  pub begun : IsBegun old mid producer o packet
  pub stepped : IsFirstStep mid before h

-- A wait for `pages` rx slots has begun, and has taken its first step.
pub record BeginsWait {S : Type 0} (old : Queue) (pages : ℕ) (bus : S) (before : List ℕ) (h : Held S) : Type 0 where
  pub untouched : h.bus ≡ bus
  pub mid : Queue
  pub begun : IsWaitBegun old mid pages
  pub stepped : IsFirstStep mid before h

-- ---- what is over

-- A turn is over. Its events are a row of the table of turns, which ends as this kind; the bus went through their accesses and no
-- others, and the counters through their operations.
pub record HasTurned {S : Type 0} (log : S → Option (List Access)) (gives : S → Access → S → Type 0) (old new : Queue) (kind : Kind)
    (bus bus' : S) (before after : List ℕ) : Type 0 where
  pub trace : List Event
  pub is_turn : IsTurn (wiring old) old.engine.state trace new.engine.state (turned kind (packet_of new))
  pub performed : Performs log gives bus (accesses trace) bus'
  pub counted : IsHistory (wired_to old).program.shapes (map Some (labels trace)) before after
  pub packet : has_run kind ≡ false → packet_of new ≡ []
  pub rests : resting new ≡ Some new.engine.state
  pub wires : wired_to new ≡ wired_to old

-- A delivery is over. Its events are a row of the table of deliveries; the bus went through their accesses and no others, and no counter
-- changed.
pub record HasDelivered {S : Type 0} (log : S → Option (List Access)) (gives : S → Access → S → Type 0) (old new : Queue)
    (o : RxOffload) (packet : List ℕ) (what : Delivery) (bus bus' : S) (before after : List ℕ) : Type 0 where
  pub trace : List Event
  pub is_delivery : IsDelivery (wiring old) old.engine.state o packet trace new.engine.state what
  pub performed : Performs log gives bus (accesses trace) bus'
  pub counters : after ≡ before
  pub copied : IsDeliverable (wiring old).accepts o packet → packet_of new ≡ packet
  pub rests : resting new ≡ Some new.engine.state
  pub wires : wired_to new ≡ wired_to old

-- A wait is over. Its events are a row of the table of waits; the bus went through their accesses and no others, and no counter changed.
pub record HasAwaited {S : Type 0} (log : S → Option (List Access)) (gives : S → Access → S → Type 0) (old new : Queue) (pages : ℕ)
    (what : Awaited) (bus bus' : S) (before after : List ℕ) : Type 0 where
  pub trace : List Event
  pub is_awaiting : IsAwaiting (wiring old) old.engine.state pages trace new.engine.state what
  pub performed : Performs log gives bus (accesses trace) bus'
  pub counters : after ≡ before
  pub packet : packet_of new ≡ packet_of old
  pub rests : resting new ≡ Some new.engine.state
  pub wires : wired_to new ≡ wired_to old
