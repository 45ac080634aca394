-- What a turn's computation is at a phase that waits on an index or on a number.
use Rattle.std.proofs.Common.{◌≡◌, ℕ, zero, suc, ◌+◌, ◌-◌, ◌<◌, List, [], length, drop, Some, refl, arith, ap, get_or}
use Rattle.std.proofs.lemmas.List.{drop_more}
use Rattle.xen_netif.specs.Chain.{Slot}
use Rattle.xen_steps.specs.Places.{add32}
use Rattle.xen_rx_fill.specs.Places.{tx_slot}
use Rattle.xen_steps.specs.Steps.{done, ask, bind}
use Rattle.xen_turns.specs.Rest.{fragment_at}
use Rattle.xen_rx_fill.specs.Entries.{entry}
use Rattle.xen_turns.specs.Tree.{after_look, after_scan, answer, copy, entered, read_slots, seen}
use Rattle.xen_netif.specs.declared.fragment.Fragment.{Fragment}
use Rattle.xen_turns.specs.Turned.{Ending}
use Rattle.xen_turns.specs.declared.state.State.{State}
use Rattle.xen_steps.specs.declared.want.Want.TheVariants as want
use Rattle.xen_turns.specs.declared.wiring.Wiring.{Wiring}
use Rattle.xen_page.specs.declared.entry.Rights.TheVariants.{ReadOnly}

pub after_look_some : (w : Wiring) (s : State) (n : ℕ) → 0 < n → after_look w s (Some n) ≡ bind (read_slots w s.tx_index (suc (n - 1)) []) (after_scan w s)
after_look_some w s zero h = absurd (omega arith)
after_look_some w s (suc n) h = let e : n ≡ suc n - 1 = omega arith in ap (λ m. bind (read_slots w s.tx_index (suc m) []) (after_scan w s)) e

pub seen_some : (w : Wiring) (t n : ℕ) → 0 < n → seen w t (Some n) ≡ done (Some n)
seen_some w t zero h = absurd (omega arith)
seen_some w t (suc n) h = refl

pub read_slots_more : (w : Wiring) (s : State) (left : ℕ) (slots : List Slot) → 0 < left → read_slots w s.tx_index (suc (left - 1)) slots ≡ read_slots w s.tx_index left slots
read_slots_more w s zero slots h = absurd (omega arith)
read_slots_more w s (suc left) slots h = let e : suc left - 1 ≡ left = omega arith in ap (λ m. read_slots w s.tx_index (suc m) slots) e

-- what is left of the responses, at a slot and at the end
pub answer_at : (w : Wiring) (t n i : ℕ) (words : List ℕ) (e : Ending) → i < length words →
    answer w t n i (drop i words) e ≡ ask (want.Write (tx_slot w.vif (add32 t i) 0) (get_or words i 0)) (λ _. answer w t n (i + 1) (drop (i + 1) words) e)
answer_at w t n i words e h = ap (λ l. answer w t n i l e) (drop_more words i 0 h)

pub copy_at : (w : Wiring) (fragments : List Fragment) (i : ℕ) (bytes : List ℕ) → i < length fragments →
    copy w (drop i fragments) bytes ≡ bind (entry w.vif ReadOnly (fragment_at fragments i).gref) (entered (fragment_at fragments i) (copy w (drop (i + 1) fragments)) bytes)
copy_at w fragments i bytes h = ap (λ l. copy w l bytes) (drop_more fragments i (record { gref = 0; offset = 0; size = 0 }) h)
