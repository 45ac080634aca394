-- Stated: claims rest on this file.
-- The transmit's part of a turn's trace: the packet goes into the buffers of posted rx slots.
use Rattle.std.specs.Prelude.{ℕ, zero, suc, ◌≡◌, ◌<◌, ◌≤◌, ◌+◌, ◌^◌, true, false, List, [], ◌∷◌, ◌++◌, length, Some, None}
use Rattle.std.specs.Prelude.{Result, Ok, Err}
use Rattle.xen_netif.specs.Slots.{rx_req_of}
use Rattle.xen_netif.specs.declared.offload.RxOffload.{RxOffload}
use Rattle.xen_page.specs.declared.fault.GrantFault.{GrantFault}
use Rattle.xen_page.specs.declared.entry.Rights.TheVariants.{ReadWrite}
use Rattle.xen_ring.specs.Index.{is_due}
use Rattle.xen_steps.specs.Event.{Event, Read, Write}
use Rattle.xen_rx_fill.specs.Packets.{slots, takes_extra, words, word_of, buffer_word, response_word}
use Rattle.xen_rx_fill.specs.Shared.{IsEntry, notices}
use Rattle.xen_steps.specs.Places.{add32, available}
use Rattle.xen_rx_fill.specs.Places.{rx_slot, rx_word}
use Rattle.xen_rx_fill.specs.declared.by_event.phase.TransmitOutcome.{TransmitOutcome}
use Rattle.xen_rx_fill.specs.declared.by_event.phase.TransmitOutcome.TheVariants as outcome
use Rattle.xen_rx_fill.specs.declared.target.Grants.{Grants}
use Rattle.xen_rx_fill.specs.declared.target.Grants.TheVariants.{Passed, Refused}
use Rattle.xen_rx_fill.specs.declared.target.Target.{Target}
use Rattle.xen_rx_fill.specs.declared.vif.Vif.{Vif}

-- A slot's two words and its grant's entry, checked for writing: the slot's id, and the check's result.
pub data IsPosted (w : Vif) (i : ℕ) : List Event → ℕ → Result ℕ GrantFault → Type 0 where
  is_posted : (a g : ℕ) (p : List Event) (r : Result ℕ GrantFault) → a < 2 ^ 32 → g < 2 ^ 32 →
      IsEntry w ReadWrite (rx_req_of (a ∷ g ∷ [])).gref p r →
      IsPosted w i (Read (rx_slot w i 0) a ∷ Read (rx_slot w i 1) g ∷ p) (rx_req_of (a ∷ g ∷ [])).id r

-- Slots from the i-th past x on are read until `left` of them have passed, or one is refused. The slot that takes the extra passes.
pub data AreTargets (w : Vif) (x : ℕ) (o : RxOffload) : ℕ → ℕ → List Event → Grants → List Target → Type 0 where
  all : (i : ℕ) → AreTargets w x o i 0 [] Passed []
  refusing : (i left id : ℕ) (p : List Event) (fault : GrantFault) → takes_extra o i ≡ false → IsPosted w (add32 x i) p id (Err fault) →
      AreTargets w x o i (suc left) p Refused (record { id = id; frame = None } ∷ [])
  passing : (i left id frame : ℕ) (p q : List Event) (grants : Grants) (ts : List Target) → takes_extra o i ≡ false →
      IsPosted w (add32 x i) p id (Ok frame) → AreTargets w x o (i + 1) left q grants ts →
      AreTargets w x o i (suc left) (p ++ q) grants (record { id = id; frame = Some frame } ∷ ts)
  for_extra : (i left a g : ℕ) (q : List Event) (grants : Grants) (ts : List Target) → takes_extra o i ≡ true → a < 2 ^ 32 → g < 2 ^ 32 →
      AreTargets w x o (i + 1) left q grants ts →
      AreTargets w x o i (suc left) (Read (rx_slot w (add32 x i) 0) a ∷ Read (rx_slot w (add32 x i) 1) g ∷ q) grants
      (record { id = (rx_req_of (a ∷ g ∷ [])).id; frame = None } ∷ ts)

-- n words of the packet from the k-th on
abbrev pub buffer_writes : RxOffload → List Target → List ℕ → ℕ → ℕ → List Event
buffer_writes o ts packet zero k = []
buffer_writes o ts packet (suc n) k = Write (buffer_word o ts k) (word_of packet k) ∷ buffer_writes o ts packet n (k + 1)

abbrev pub rx_writes : Vif → ℕ → RxOffload → List ℕ → Grants → ℕ → ℕ → List Target → List Event
rx_writes w x o packet grants n i [] = []
rx_writes w x o packet grants n i (t ∷ ts) =
    Write (rx_slot w (add32 x i) 0) (response_word o grants packet n i t.id 0)
    ∷ Write (rx_slot w (add32 x i) 1) (response_word o grants packet n i t.id 1)
    ∷ rx_writes w x o packet grants n (i + 1) ts

-- Two words per response, then the push, the event index, and a notice if one is due.
abbrev pub IsRxRespond : Vif → ℕ → RxOffload → List ℕ → Grants → List Target → List Event → Type 0
IsRxRespond w x o packet grants ts p =
    (event : ℕ) × (event < 2 ^ 32)
    × (p ≡ rx_writes w x o packet grants (length ts) 0 ts ++ Write (rx_word w 2) (add32 x (length ts)) ∷ Read (rx_word w 3) event
    ∷ notices w (is_due x (add32 x (length ts)) event))

-- A transmit. If a slot is refused, nothing is written to any buffer.
pub data IsTransmit (w : Vif) (x : ℕ) (o : RxOffload) (packet : List ℕ) : List Event → TransmitOutcome → Type 0 where
  rx_overflow : (p : ℕ) → p < 2 ^ 32 → available x p ≡ None → IsTransmit w x o packet (Read (rx_word w 0) p ∷ []) outcome.Overflow
  too_few : (p m : ℕ) → p < 2 ^ 32 → available x p ≡ Some m → m < slots o packet →
      IsTransmit w x o packet (Read (rx_word w 0) p ∷ []) outcome.TooFew
  refused : (p m : ℕ) (reads answers : List Event) (ts : List Target) → p < 2 ^ 32 → available x p ≡ Some m → slots o packet ≤ m →
      AreTargets w x o 0 (slots o packet) reads Refused ts → IsRxRespond w x o packet Refused ts answers →
      IsTransmit w x o packet (Read (rx_word w 0) p ∷ (reads ++ answers)) (outcome.Refused (length ts))
  sent : (p m : ℕ) (reads answers : List Event) (ts : List Target) → p < 2 ^ 32 → available x p ≡ Some m → slots o packet ≤ m →
      AreTargets w x o 0 (slots o packet) reads Passed ts → IsRxRespond w x o packet Passed ts answers →
      IsTransmit w x o packet (Read (rx_word w 0) p ∷ (reads ++ (buffer_writes o ts packet (words packet) 0 ++ answers))) (outcome.Sent (length ts))
