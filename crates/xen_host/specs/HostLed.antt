-- For proofs: no claim rests on this file.
-- What a function that asks a host has done: the computation that was left, and where the asks lead from it.
use Rattle.std.specs.Prelude.{ℕ, suc, ◌≡◌, ◌≤◌, ◌+◌, ◌/◌, ◌⊎◌, false, List, [], ◌∷◌, ◌++◌, Option, None, Some, drop, length}
use Rattle.bpf_note.specs.declared.op.Op.{Op}
use Rattle.xen_netif.specs.Chain.{Slot}
use Rattle.xen_netif.specs.Copy.{bytes_from}
use Rattle.xen_netif.specs.declared.fragment.Fragment.{Fragment}
use Rattle.xen_host.specs.Offload.{Offload}
use Rattle.xen_netif.specs.declared.offload.RxOffload.{RxOffload}
use Rattle.xen_netif.specs.declared.status.Status.{Status}
use Rattle.xen_page.specs.declared.place.Place.{Place}
use Rattle.xen_steps.specs.Drive.{LedBy}
use Rattle.xen_steps.specs.Pages.{AreWords, covered}
use Rattle.xen_steps.specs.Places.{page_word}
use Rattle.xen_steps.specs.Steps.{Steps, bind}
use Rattle.xen_rx_fill.specs.Places.{rx_word}
use Rattle.xen_rx_fill.specs.declared.target.Grants.{Grants}
use Rattle.xen_rx_fill.specs.declared.by_event.phase.TransmitOutcome.{TransmitOutcome}
use Rattle.xen_rx_fill.specs.declared.vif.Vif.{Vif}
use Rattle.xen_turns.specs.Deliveries.{Arrival, arrived}
use Rattle.xen_turns.specs.Tree.{after_copy, after_transmit, copy, responses}
use Rattle.xen_turns.specs.Turned.{Ending}
use Rattle.xen_turns.specs.Waits.{Wait}
use Rattle.xen_host.specs.Asks.{AllSized, Ask, TakeNone, needs_no_answer}
use Rattle.xen_host.specs.Chained.{replies, stores}
use Rattle.xen_host.specs.Early.{EarlyFrom}
use Rattle.xen_host.specs.Fed.{fed}
use Rattle.xen_host.specs.Fits.{Fits}
use Rattle.xen_host.specs.Hosts.{Asked, WasAskedAll, WasGiven, asks_of, events_of, plain_all}
use Rattle.xen_host.specs.Led.{Beside, DeliveryEnds, TurnEnds, WaitEnds, beside}
use Rattle.xen_host.specs.Ran.{HasRunThrough}
use Rattle.xen_host.specs.Rest.{due_filling, due_in, offload_after, reads_filling, reads_in, rest_filling, rest_in, rest_of_delivery, rest_of_wait, rx_offload}
use Rattle.xen_host.specs.EngineAt.{EngineAt}
use Rattle.xen_host.specs.declared.stage.Fill.{Fill}
use Rattle.xen_host.specs.declared.stage.Purpose.{Purpose}
use Rattle.xen_host.specs.declared.stage.Purpose.TheVariants as purpose
use Rattle.xen_host.specs.declared.stage.Stage.{Stage}
use Rattle.xen_host.specs.declared.stage.Stage.TheVariants as stage

-- What a host was asked leads from a computation to where it ends. All but the last take no answer, and as much was asked as there was
-- room for, up to an ask that the step can't go on after. The offload are these.
pub record HostLed {H : Type 0} {A : Type 0} (was : H → Ask → List ℕ → H → Type 0) (full : H → Type 0) (ends : Ask → Steps A → Type 0)
    (offload : Offload) (from : Steps A) (new : EngineAt) (host host_after : H) : Type 0 where
  pub first : List Asked
  pub last : Asked
  pub asked : WasAskedAll was host (first ++ last ∷ []) host_after
  pub take_none : TakeNone (asks_of first)
  pub stops : full host_after ⊎ (needs_no_answer last.ask ≡ false)
  pub sized : AllSized (asks_of (first ++ last ∷ []))
  pub left : Steps A
  pub gone : LedBy from (events_of (first ++ last ∷ [])) left
  pub is_end : ends last.ask left
  pub offload_is : new.offload ≡ offload
  pub fits : Fits new.stage new.work

abbrev pub TurnLeads : {H : Type 0} → (H → Ask → List ℕ → H → Type 0) → (H → Type 0) → Offload → Steps Ending → EngineAt →
    (host host_after : H) → Type 0
TurnLeads was full offload from new host host_after = HostLed was full (TurnEnds new) offload from new host host_after

-- As TurnLeads, after the program's run.
pub record TurnRanLeads {H : Type 0} (was : H → Ask → List ℕ → H → Type 0) (full : H → Type 0) (offload : Offload)
    (from : Steps Ending) (new : EngineAt) (went : List (Option Op) → Type 0) (host host_after : H) : Type 0 where
  pub between : Steps Ending
  pub ran : HasRunThrough went from between
  pub led : TurnLeads was full offload between new host host_after

abbrev pub DeliveryLeads : {H : Type 0} → (H → Ask → List ℕ → H → Type 0) → (H → Type 0) → Offload → List ℕ →
    Steps Arrival → EngineAt → (host host_after : H) → Type 0
DeliveryLeads was full offload packet from new host host_after =
    HostLed was full (DeliveryEnds packet new) offload from new host host_after

abbrev pub WaitLeads : {H : Type 0} → (H → Ask → List ℕ → H → Type 0) → (H → Type 0) → Offload → List ℕ → Steps Wait →
    EngineAt → (host host_after : H) → Type 0
WaitLeads was full offload packet from new host host_after = HostLed was full (WaitEnds packet new) offload from new host host_after

abbrev pub FillLeads : {H : Type 0} → (H → Ask → List ℕ → H → Type 0) → (H → Type 0) → Purpose → Beside → Steps TransmitOutcome → EngineAt →
    (host host_after : H) → Type 0
FillLeads was full (purpose.Back n) e from new host host_after =
    TurnLeads was full e.offload (bind from (after_transmit e.wires e.state e.chain e.packet n)) new host host_after
FillLeads was full purpose.Delivery e from new host host_after =
    DeliveryLeads was full e.offload e.packet (bind from (arrived e.state)) new host host_after

-- ---- responses

-- n responses were asked for, and it is free for more; or some, up to the i-th, and it is full.
abbrev pub SaidSome : {H : Type 0} → (H → Ask → List ℕ → H → Type 0) → (free full : H → Type 0) → (asks : ℕ → List Ask) →
    (from all : ℕ) → Option ℕ → (host host_after : H) → Type 0
SaidSome was free full asks from all None host host_after =
    (n : ℕ) × (from + n ≡ all) × WasAskedAll was host (plain_all (asks n)) host_after × free host_after
SaidSome was free full asks from all (Some i) host host_after =
    (n : ℕ) × (from + suc n ≡ i) × (i ≤ all) × WasAskedAll was host (plain_all (asks (suc n))) host_after × full host_after

-- The responses to a chain, from one on.
abbrev pub HasResponded : {H : Type 0} → (H → Ask → List ℕ → H → Type 0) → (free full : H → Type 0) → Vif → List Slot →
    (t : ℕ) → Status → ℕ → Option ℕ → (host host_after : H) → Type 0
HasResponded was free full w chain t status from left host host_after =
    SaidSome was free full (stores w t (responses status chain) from) from (length chain) left host host_after

-- The responses to its rx slots.
abbrev pub HasReplied : {H : Type 0} → (H → Ask → List ℕ → H → Type 0) → (free full : H → Type 0) → EngineAt → RxOffload → Grants → ℕ → Option ℕ →
    (host host_after : H) → Type 0
HasReplied was free full e o grants from left host host_after =
    SaidSome was free full (replies e.wires.vif e.state.rx_index o e.work.packet grants e.work.targets from) from
    (length e.work.targets) left host host_after

-- ---- answers

-- An answer of so many words from a place on, and what follows it.
pub record AfterAnswer {H : Type 0} (gave : H → Place → List ℕ → H → Type 0) (at : Place) (reads : ℕ) (then : List ℕ → H → Type 0) (host : H) :
    Type 0 where
  pub words : List ℕ
  pub mid : H
  pub given : WasGiven gave at reads host words mid
  pub led : then words mid

-- After the words of this frame that a fragment covers; the next fragment is the i-th.
pub record HasCopied {H : Type 0} (was : H → Ask → List ℕ → H → Type 0) (full : H → Type 0) (gave : H → Place → List ℕ → H → Type 0) (i : ℕ)
    (f : Fragment) (frame : ℕ) (old new : EngineAt) (went : List (Option Op) → Type 0) (host host_after : H) : Type 0 where
  pub words : List ℕ
  pub mid : H
  pub all : length words ≡ covered f
  pub below : AreWords words
  pub given : gave host (page_word frame (f.offset / 4)) words mid
  pub led : TurnRanLeads was full old.offload (bind (copy old.wires (drop i old.work.fragments)
      (old.work.packet ++ bytes_from f (f.offset / 4) words)) (after_copy old.wires old.state old.work.chain)) new went
      mid host_after
  pub early : EarlyFrom (λ s. bind (copy old.wires (drop i old.work.fragments) (old.work.packet ++ bytes_from f (f.offset / 4) words)) (after_copy old.wires s
      old.work.chain)) old.state new

abbrev pub FillGoesOn : {H : Type 0} → (H → Ask → List ℕ → H → Type 0) → (H → Type 0) → (H → Place → List ℕ → H → Type 0) → Fill → Purpose →
    (old new : EngineAt) → (host host_after : H) → Type 0
FillGoesOn was full gave f p old new host host_after =
    AfterAnswer gave (due_filling old.wires.vif old.state.rx_index f old.work) (reads_filling f) (λ words mid. FillLeads was full p (beside old)
    (fed (rest_filling old.wires.vif old.state.rx_index (rx_offload p old.work.offload) f old.work) words) new mid host_after) host

-- ---- a step

-- A step from a stage, after the words that were waited for.
abbrev pub GoesOnAt : {H : Type 0} → (H → Ask → List ℕ → H → Type 0) → (H → Type 0) → (H → Place → List ℕ → H → Type 0) → Stage →
    (old new : EngineAt) → (went : List (Option Op) → Type 0) → (host host_after : H) → Type 0
GoesOnAt was full gave stage.Ready old new went host host_after = (new ≡ old) × (host_after ≡ host) × went []
GoesOnAt was full gave stage.Several old new went host host_after = (new ≡ old) × (host_after ≡ host) × went []
GoesOnAt was full gave (stage.Fill f purpose.Delivery) old new went host host_after =
    AfterAnswer gave (due_filling old.wires.vif old.state.rx_index f old.work) (reads_filling f) (λ words mid. DeliveryLeads was full old.offload old.work.packet
    (fed (rest_of_delivery old.wires.vif old.state (stage.Fill f purpose.Delivery) old.work) words) new mid host_after) host ×
    went []
GoesOnAt was full gave (stage.Deliver producer) old new went host host_after =
    DeliveryLeads was full old.offload old.work.packet (rest_of_delivery old.wires.vif old.state
    (stage.Deliver producer) old.work) new host host_after × went []
GoesOnAt was full gave (stage.Wait pages) old new went host host_after =
    WaitLeads was full old.offload old.work.packet (rest_of_wait old.wires.vif.rx old.state (stage.Wait pages)) new host host_after ×
    went []
GoesOnAt was full gave (stage.WaitLook pages) old new went host host_after =
    AfterAnswer gave (rx_word old.wires.vif 0) 1 (λ words mid. WaitLeads was full old.offload old.work.packet
    (fed (rest_of_wait old.wires.vif.rx old.state (stage.WaitLook pages)) words) new mid host_after) host × went []
GoesOnAt was full gave g old new went host host_after =
    AfterAnswer gave (due_in old.wires old.state g old.work) (reads_in g) (λ words mid. TurnRanLeads was full (offload_after old.wires.offers g old.work words old.offload)
    (fed (rest_in old.wires old.state g old.work) words) new went mid host_after) host
