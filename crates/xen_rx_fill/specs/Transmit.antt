-- Stated: claims rest on this file.
-- The transmit of a packet, as a computation that asks.
use Rattle.std.specs.Prelude.{ℕ, zero, suc, ◌+◌, ◌-◌, Bool, true, false, List, [], ◌∷◌, ◌++◌, length, Option, Some, None, Result}
use Rattle.std.specs.Prelude.{Ok, Err, nat_lt, if◌then◌else◌}
use Rattle.xen_netif.specs.Slots.{rx_req_of}
use Rattle.xen_netif.specs.declared.offload.RxOffload.{RxOffload}
use Rattle.xen_netif.specs.declared.rx.RxReq.{RxReq}
use Rattle.xen_page.specs.declared.fault.GrantFault.{GrantFault}
use Rattle.xen_page.specs.declared.entry.Rights.TheVariants.{ReadWrite}
use Rattle.xen_ring.specs.Index.{is_due}
use Rattle.xen_rx_fill.specs.Entries.{entry}
use Rattle.xen_rx_fill.specs.Packets.{slots, takes_extra, words, word_of, buffer_word, response_word}
use Rattle.xen_steps.specs.Places.{add32, available}
use Rattle.xen_rx_fill.specs.Places.{rx_slot, rx_word}
use Rattle.xen_steps.specs.Steps.{Steps, done, ask, bind}
use Rattle.xen_rx_fill.specs.declared.by_event.phase.TransmitOutcome.{TransmitOutcome}
use Rattle.xen_rx_fill.specs.declared.by_event.phase.TransmitOutcome.TheVariants as outcome
use Rattle.xen_rx_fill.specs.declared.target.Grants.{Grants}
use Rattle.xen_rx_fill.specs.declared.target.Grants.TheVariants.{Passed, Refused}
use Rattle.xen_rx_fill.specs.declared.target.Target.{Target}
use Rattle.xen_steps.specs.declared.want.Want.TheVariants as want
use Rattle.xen_rx_fill.specs.declared.vif.Vif.{Vif}

-- the slots that were read: all passed, or the last was refused
abbrev pub Posted : Type 0
Posted = Result (List Target) (List Target)

-- after a slot: one that passed is followed by more, one that is refused is the last
abbrev pub targeted : List Target → (List Target → Steps Posted) → ℕ → Result ℕ GrantFault → Steps Posted
targeted targets go id (Ok frame) = go (targets ++ record { id = id; frame = Some frame } ∷ [])
targeted targets go id (Err fault) = done (Err (targets ++ record { id = id; frame = None } ∷ []))

-- the entry of a request's page; that of the slot that takes the extra isn't looked at
abbrev pub requested : Vif → (extra : Bool) → List Target → (List Target → Steps Posted) → RxReq → Steps Posted
requested w true targets go request = go (targets ++ record { id = request.id; frame = None } ∷ [])
requested w false targets go request = bind (entry w ReadWrite request.gref) (targeted targets go request.id)

-- a slot's two words
abbrev pub posted_second : Vif → ℕ → (RxReq → Steps Posted) → ℕ → Steps Posted
posted_second w i rest a = ask (want.Read (rx_slot w i 1)) (λ g. rest (rx_req_of (a ∷ g ∷ [])))

abbrev pub posted : Vif → ℕ → (RxReq → Steps Posted) → Steps Posted
posted w i rest = ask (want.Read (rx_slot w i 0)) (λ a. posted_second w i rest a)

-- `left` more slots, after those before
abbrev pub read_targets : Vif → ℕ → RxOffload → ℕ → List Target → Steps Posted
read_targets w x o zero targets = done (Ok targets)
read_targets w x o (suc left) targets =
    posted w (add32 x (length targets)) (requested w (takes_extra o (length targets)) targets (read_targets w x o left))

abbrev pub outcome_of : Grants → ℕ → TransmitOutcome
outcome_of Refused used = outcome.Refused used
outcome_of Passed used = outcome.Sent used

abbrev pub rx_notice : Vif → Bool → TransmitOutcome → Steps TransmitOutcome
rx_notice w false o = done o
rx_notice w true o = ask (want.Notify w.port) (λ _. done o)

abbrev pub rx_event : Vif → ℕ → Grants → ℕ → Steps TransmitOutcome
rx_event w x grants n = ask (want.Read (rx_word w 3)) (λ event. rx_notice w (is_due x (add32 x n) event) (outcome_of grants n))

abbrev pub rx_publish : Vif → ℕ → Grants → ℕ → Steps TransmitOutcome
rx_publish w x grants n = ask (want.Write (rx_word w 2) (add32 x n)) (λ _. rx_event w x grants n)

-- the responses from the i-th of n on, two words each, and the push
abbrev pub rx_answer : Vif → ℕ → RxOffload → List ℕ → Grants → ℕ → ℕ → List Target → Steps TransmitOutcome
rx_answer w x o packet grants n i [] = rx_publish w x grants n
rx_answer w x o packet grants n i (t ∷ ts) =
    ask (want.Write (rx_slot w (add32 x i) 0) (response_word o grants packet n i t.id 0))
    (λ _. ask (want.Write (rx_slot w (add32 x i) 1) (response_word o grants packet n i t.id 1))
    (λ _. rx_answer w x o packet grants n (i + 1) ts))

abbrev pub rx_respond : Vif → ℕ → RxOffload → List ℕ → Grants → List Target → Steps TransmitOutcome
rx_respond w x o packet grants targets = rx_answer w x o packet grants (length targets) 0 targets

-- n words of the packet from the k-th on, into the buffers
abbrev pub fill : RxOffload → List Target → List ℕ → ℕ → ℕ → Steps (Unit {0})
fill o targets packet zero k = done tt
fill o targets packet (suc n) k = ask (want.Write (buffer_word o targets k) (word_of packet k)) (λ _. fill o targets packet n (k + 1))

abbrev pub fill_from : Vif → ℕ → RxOffload → List ℕ → List Target → ℕ → Steps TransmitOutcome
fill_from w x o packet targets k = bind (fill o targets packet (words packet - k) k) (λ _. rx_respond w x o packet Passed targets)

abbrev pub after_targets : Vif → ℕ → RxOffload → List ℕ → Posted → Steps TransmitOutcome
after_targets w x o packet (Ok targets) = fill_from w x o packet targets 0
after_targets w x o packet (Err targets) = rx_respond w x o packet Refused targets

abbrev pub found : Vif → ℕ → RxOffload → List ℕ → Option ℕ → Steps TransmitOutcome
found w x o packet None = done outcome.Overflow
found w x o packet (Some m) = if nat_lt m (slots o packet) then done outcome.TooFew
    else bind (read_targets w x o (slots o packet) []) (after_targets w x o packet)

abbrev pub transmit : Vif → ℕ → RxOffload → List ℕ → Steps TransmitOutcome
transmit w x o packet = ask (want.Read (rx_word w 0)) (λ p. found w x o packet (available x p))
