-- Stated: claims rest on this file.
-- The parts of a turn's trace, each fixed by the answers before it.
use Rattle.std.specs.Prelude.{ℕ, ◌≡◌, ◌≢◌, ◌<◌, ◌≤◌, ◌+◌, ◌/◌, ◌^◌, ◌⊎◌, List, [], ◌∷◌, ◌++◌, Option, Some, None, Ok, Err}
use Rattle.std.specs.Prelude.{length, take}
use Rattle.xen_netif.specs.Chain.{Slot, WantsData, WantsExtra}
use Rattle.xen_netif.specs.Copy.{copy_of}
use Rattle.xen_netif.specs.declared.fragment.Fragment.{Fragment}
use Rattle.xen_netif.specs.declared.status.Status.{Status}
use Rattle.xen_page.specs.declared.fault.GrantFault.{GrantFault}
use Rattle.xen_page.specs.declared.entry.Rights.TheVariants.{ReadOnly}
use Rattle.xen_ring.specs.Index.{is_due}
use Rattle.xen_steps.specs.Event.{Event, Read, Write}
use Rattle.xen_steps.specs.Places.{add32, available}
use Rattle.xen_rx_fill.specs.Places.{tx_slot, tx_word}
use Rattle.xen_steps.specs.Pages.{AreWords, covered, page_reads}
use Rattle.xen_rx_fill.specs.Shared.{IsEntry, notices}
use Rattle.xen_turns.specs.Responses.{responses}
use Rattle.xen_turns.specs.declared.state.State.{State}
use Rattle.xen_turns.specs.declared.wiring.Wiring.{Wiring}

-- Looking for requests: the producer is read; if it shows nothing, the event index is stored and the producer read again.
pub data IsLook (w : Wiring) (t : ℕ) : List Event → Option ℕ → Type 0 where
  once : (p : ℕ) → p < 2 ^ 32 → available t p ≢ Some 0 → IsLook w t (Read (tx_word w.vif 0) p ∷ []) (available t p)
  twice : (p q : ℕ) → p < 2 ^ 32 → q < 2 ^ 32 → available t p ≡ Some 0 →
      IsLook w t (Read (tx_word w.vif 0) p ∷ Write (tx_word w.vif 1) (add32 t 1) ∷ Read (tx_word w.vif 0) q ∷ []) (available t q)

-- Each word of a slot is read once, in rising order.
abbrev pub slot_reads : Wiring → ℕ → Slot → List Event
slot_reads w i (a ∷ b ∷ c ∷ []) = Read (tx_slot w.vif i 0) a ∷ Read (tx_slot w.vif i 1) b ∷ Read (tx_slot w.vif i 2) c ∷ []
slot_reads w i slot = []

-- The reads of slots, the first of them the i-th from t.
abbrev pub slots_reads : Wiring → ℕ → ℕ → List Slot → List Event
slots_reads w t i [] = []
slots_reads w t i (slot ∷ slots) = slot_reads w (add32 t i) slot ++ slots_reads w t (i + 1) slots

abbrev pub IsSlotRead : Slot → Type 0
IsSlotRead (a ∷ b ∷ c ∷ []) = (a < 2 ^ 32) × (b < 2 ^ 32) × (c < 2 ^ 32)
IsSlotRead slot = ⊥

abbrev pub AllWords : List Slot → Type 0
AllWords [] = Unit {0}
AllWords (slot ∷ slots) = IsSlotRead slot × AllWords slots

-- A proper beginning of a chain, which wants a data slot or an extra.
abbrev pub IsBeginning : List Slot → Type 0
IsBeginning slots = WantsData slots ⊎ WantsExtra slots

-- Slots are read as long as those before want more, and none past the producer.
pub record AreRead (w : Wiring) (t n : ℕ) (p : List Event) (slots : List Slot) : Type 0 where
  pub reads : p ≡ slots_reads w t 0 slots
  pub words : AllWords slots
  pub wanted : (k : ℕ) → k < length slots → IsBeginning (take k slots)
  pub within : length slots ≤ n

abbrev pub behind : List ℕ → Option (List ℕ) → Option (List ℕ)
behind bytes None = None
behind bytes (Some later) = Some (bytes ++ later)

-- The copy of fragments: for each, its grant's entry and, if that grants a frame, the covered words, once each; up to the first that
-- is refused.
pub data IsCopy (w : Wiring) : List Fragment → List Event → Option (List ℕ) → Type 0 where
  copied : IsCopy w [] [] (Some [])
  denied : (f : Fragment) (fs : List Fragment) (p : List Event) (fault : GrantFault) → IsEntry w.vif ReadOnly f.gref p (Err fault) →
      IsCopy w (f ∷ fs) p None
  part : (f : Fragment) (fs : List Fragment) (p q : List Event) (frame : ℕ) (words : List ℕ) (out : Option (List ℕ)) →
      IsEntry w.vif ReadOnly f.gref p (Ok frame) → length words ≡ covered f → AreWords words → IsCopy w fs q out →
      IsCopy w (f ∷ fs) (p ++ (page_reads frame (f.offset / 4) words ++ q)) (behind (copy_of f words) out)

-- The responses from the i-th slot on.
abbrev pub response_writes : Wiring → ℕ → ℕ → List ℕ → List Event
response_writes w t i [] = []
response_writes w t i (r ∷ rs) = Write (tx_slot w.vif (add32 t i) 0) r ∷ response_writes w t (i + 1) rs

-- One response per slot, then the push, the event index, and a notice if one is due.
abbrev pub IsRespond : Wiring → ℕ → List Slot → Status → List Event → Type 0
IsRespond w t slots st p =
    (event : ℕ) × (event < 2 ^ 32)
    × (p ≡ response_writes w t 0 (responses st slots) ++ Write (tx_word w.vif 2) (add32 t (length slots)) ∷ Read (tx_word w.vif 3) event
    ∷ notices w.vif (is_due t (add32 t (length slots)) event))

-- Requests are there, and slots of the first chain were read.
pub record HasRead (w : Wiring) (s : State) (n : ℕ) (looks reads : List Event) (slots : List Slot) : Type 0 where
  pub running : s.halt ≡ None
  pub look : IsLook w s.tx_index looks (Some n)
  pub some : 0 < n
  pub read : AreRead w s.tx_index n reads slots
