-- For proofs: no claim rests on this file.
-- A turn's beginning and a step of an engine, over any host: what it answered, what it was asked, and where these lead.
use Rattle.std.specs.Prelude.{ℕ, ◌≡◌, ◌⊎◌, false, List, [], ◌∷◌, ◌++◌, Option, length, map}
use Rattle.bpf_note.specs.declared.op.Op.{Op as Operation}
use Rattle.xen_netif.specs.declared.offload.RxOffload.{RxOffload}
use Rattle.xen_page.specs.declared.place.Place.{Place}
use Rattle.xen_steps.specs.Event.{Event, Read}
use Rattle.xen_rx_fill.specs.Places.{tx_word}
use Rattle.xen_turns.specs.Program.{event_of}
use Rattle.xen_turns.specs.declared.state.State.{State}
use Rattle.xen_host.specs.Asks.{AllInPages, AllSized, Ask, TakeNone, needs_no_answer, read_by}
use Rattle.xen_host.specs.Buses.{AllHeld}
use Rattle.xen_host.specs.EngineAt.{EngineAt}
use Rattle.xen_host.specs.Hosts.{Asked, WasAskedAll, WasGiven, asks_of, events_of}
use Rattle.xen_host.specs.Rest.{due_in, offload_after, no_offload, reads_in}
use Rattle.xen_host.specs.Told.{IsToldAt}
use Rattle.xen_host.specs.UnderWay.{DeliveryGoesAt, IsDeliveringAt, IsTurningAt, IsWaitingAt, TurnGoesAt, WaitGoesAt, first_read, read_by_some}

-- A turn has begun between two, with what was read of the tx producer.
pub record BeginsAt {H : Type 0} (was : H → Ask → List ℕ → H → Type 0) (full : H → Type 0) (old new : EngineAt) (producer : ℕ)
    (host host_after : H) : Type 0 where
  pub first : List Asked
  pub last : Asked
  pub asked : WasAskedAll was host (first ++ last ∷ []) host_after
  pub take_none : TakeNone (asks_of first)
  pub stops : full host_after ⊎ (needs_no_answer last.ask ≡ false)
  pub sized : AllSized (asks_of (first ++ last ∷ []))
  pub told : IsToldAt old.wires.vif.table.now new.stage last.ask
  pub within : AllHeld (first ++ last ∷ []) → AllInPages (length old.wires.vif.owners.now) (asks_of (first ++ last ∷ []))
  pub wires : new.wires ≡ old.wires
  pub offload : new.offload ≡ no_offload
  pub turn : TurnGoesAt new last.ask old.state
      (first_read old.state.halt (Read (tx_word old.wires.vif 0) producer) ++ events_of (first ++ last ∷ []))

-- What was asked last is answered, the program runs as far as it has to, with its operations on counters as `went` says, and the host is
-- asked for what comes then. With the events of all this, what is under way goes on or is over.
pub record StepsAt {H : Type 0} (was : H → Ask → List ℕ → H → Type 0) (full : H → Type 0) (gave : H → Place → List ℕ → H → Type 0)
    (went : List (Option Operation) → Type 0) (same : Type 0) (old new : EngineAt) (host host_after : H) : Type 0 where
  pub words : List ℕ
  pub mid : H
  pub given : WasGiven gave (due_in old.wires old.state old.stage old.work) (reads_in old.stage) host words mid
  pub first : List Asked
  pub last : Asked
  pub asked : WasAskedAll was mid (first ++ last ∷ []) host_after
  pub take_none : TakeNone (asks_of first)
  pub stops : full host_after ⊎ (needs_no_answer last.ask ≡ false)
  pub sized : AllSized (asks_of (first ++ last ∷ []))
  pub told : IsToldAt old.wires.vif.table.now new.stage last.ask
  pub within : AllHeld (first ++ last ∷ []) → AllInPages (length old.wires.vif.owners.now) (asks_of (first ++ last ∷ []))
  pub wires : new.wires ≡ old.wires
  pub offload : new.offload ≡ offload_after old.wires.offers old.stage old.work words old.offload
  pub labels : List (Option Operation)
  pub history : went labels
  pub turn : (s : State) (trace : List Event) (asked : Ask) → IsTurningAt old s trace asked →
      TurnGoesAt new last.ask s (trace ++ (read_by asked words ++ (map event_of labels ++ events_of (first ++ last ∷ []))))
  pub delivery : (s : State) (o : RxOffload) (packet : List ℕ) (trace : List Event) (asked : Option Ask) →
      IsDeliveringAt old s o packet trace asked →
      DeliveryGoesAt new last.ask s o packet (trace ++ (read_by_some asked words ++ events_of (first ++ last ∷ []))) × same
  pub wait : (s : State) (pages : ℕ) (packet : List ℕ) (trace : List Event) (asked : Option Ask) → IsWaitingAt old s pages packet trace asked →
      WaitGoesAt new last.ask s pages packet (trace ++ (read_by_some asked words ++ events_of (first ++ last ∷ []))) × same
