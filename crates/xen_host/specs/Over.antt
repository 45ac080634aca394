-- Stated: claims rest on this file.
-- A turn's beginning and a step of a queue, over any host: what it answered, what it was asked, and where these lead.
use Rattle.std.specs.Prelude.{ℕ, ◌≡◌, ◌⊎◌, false, List, [], ◌∷◌, ◌++◌, Option, length, map}
use Rattle.bpf_note.specs.declared.op.Op.{Op as Operation}
use Rattle.bpf_maps.specs.Seats.{SeatView}
use Rattle.xdp_program.specs.Ran.{IsHistory}
use Rattle.xdp_program.specs.Tallies.{HasGrown}
use Rattle.xen_netif.specs.declared.offload.RxOffload.{RxOffload}
use Rattle.xen_page.specs.declared.place.Place.{Place}
use Rattle.xen_steps.specs.Event.{Event, Read}
use Rattle.xen_rx_fill.specs.Places.{tx_word}
use Rattle.xen_turns.specs.Program.{event_of}
use Rattle.xen_turns.specs.declared.state.State.{State}
use Rattle.xen_host.specs.Asks.{AllInPages, AllSized, Ask, TakeNone, needs_no_answer, read_by}
use Rattle.xen_host.specs.Buses.{AllHeld}
use Rattle.xen_host.specs.Hosts.{Asked, WasAskedAll, WasGiven, asks_of, events_of}
use Rattle.xen_host.specs.Queues.{DeliveryGoesOn, IsDelivering, IsTurning, IsWaiting, TurnGoesOn, WaitGoesOn, seen, wired_to, wiring}
use Rattle.xen_host.specs.UnderWay.{first_read, read_by_some}
use Rattle.xen_host.specs.Rest.{due_in, offload_after, no_offload, reads_in}
use Rattle.xen_host.specs.Told.{IsToldAt}
use Rattle.xen_host.specs.declared.queue.Queue.{Queue}

-- A turn has begun between two, with what was read of the tx producer.
pub record BeginsOver {H : Type 0} (was : H → Ask → List ℕ → H → Type 0) (full : H → Type 0) (old new : Queue) (producer : ℕ)
    (host host_after : H) : Type 0 where
  pub first : List Asked
  pub last : Asked
  pub asked : WasAskedAll was host (first ++ last ∷ []) host_after
  pub take_none : TakeNone (asks_of first)
  pub stops : full host_after ⊎ (needs_no_answer last.ask ≡ false)
  pub sized : AllSized (asks_of (first ++ last ∷ []))
  pub told : IsToldAt (wired_to old).table new.engine.stage last.ask
  pub within : AllHeld (first ++ last ∷ []) → AllInPages (length (wired_to old).owners) (asks_of (first ++ last ∷ []))
  pub wires : wired_to new ≡ wired_to old
  pub share : new.share ≡ old.share
  pub offload : new.engine.offload ≡ no_offload
  pub turn : TurnGoesOn new last.ask old.engine.state
      (first_read old.engine.state.halt (Read (tx_word (wiring old).vif 0) producer) ++ events_of (first ++ last ∷ []))

-- What was asked last is answered, the program runs as far as it has to, with its operations on counters as `went` says, and the host is
-- asked for what comes then. With the events of all this, what is under way goes on or is over.
pub record SteppedOver {H : Type 0} (was : H → Ask → List ℕ → H → Type 0) (full : H → Type 0) (gave : H → Place → List ℕ → H → Type 0)
    (went : List (Option Operation) → Type 0) (same : Type 0) (old new : Queue) (host host_after : H) : Type 0 where
  pub words : List ℕ
  pub mid : H
  pub given : WasGiven gave (due_in (wiring old) old.engine.state old.engine.stage (seen old).work) (reads_in old.engine.stage) host words mid
  pub first : List Asked
  pub last : Asked
  pub asked : WasAskedAll was mid (first ++ last ∷ []) host_after
  pub take_none : TakeNone (asks_of first)
  pub stops : full host_after ⊎ (needs_no_answer last.ask ≡ false)
  pub sized : AllSized (asks_of (first ++ last ∷ []))
  pub told : IsToldAt (wired_to old).table new.engine.stage last.ask
  pub within : AllHeld (first ++ last ∷ []) → AllInPages (length (wired_to old).owners) (asks_of (first ++ last ∷ []))
  pub wires : wired_to new ≡ wired_to old
  pub offload : new.engine.offload ≡ offload_after (wired_to old).offers old.engine.stage (seen old).work words old.engine.offload
  pub labels : List (Option Operation)
  pub history : went labels
  pub turn : (s : State) (trace : List Event) (asked : Ask) → IsTurning old s trace asked →
      TurnGoesOn new last.ask s (trace ++ (read_by asked words ++ (map event_of labels ++ events_of (first ++ last ∷ []))))
  pub delivery : (s : State) (o : RxOffload) (packet : List ℕ) (trace : List Event) (asked : Option Ask) →
      IsDelivering old s o packet trace asked →
      DeliveryGoesOn new last.ask s o packet (trace ++ (read_by_some asked words ++ events_of (first ++ last ∷ []))) × same
  pub wait : (s : State) (pages : ℕ) (packet : List ℕ) (trace : List Event) (asked : Option Ask) → IsWaiting old s pages packet trace asked →
      WaitGoesOn new last.ask s pages packet (trace ++ (read_by_some asked words ++ events_of (first ++ last ∷ []))) × same

-- A step with the program's counters in the host's words.
abbrev pub StepsOver : {H : Type 0} → (H → Ask → List ℕ → H → Type 0) → (H → Type 0) → (H → Place → List ℕ → H → Type 0) → (old new : Queue) →
    (before after : List ℕ) → (host host_after : H) → Type 0
StepsOver was full gave old new before after host host_after =
    SteppedOver was full gave (λ labels. IsHistory (wired_to old).program.shapes labels before after) (after ≡ before) old new host
    host_after

-- A step at a seat, whose list grew by the program's operations and by no others.
abbrev pub StepsOverAtSeat : {H : Type 0} → (H → Ask → List ℕ → H → Type 0) → (H → Type 0) → (H → Place → List ℕ → H → Type 0) →
    (old new : Queue) → (before after : SeatView) → (host host_after : H) → Type 0
StepsOverAtSeat was full gave old new before after host host_after =
    SteppedOver was full gave (HasGrown before after) (after ≡ before) old new host host_after
