-- A host over a bus: what it reads and writes, in parts and as a whole.
use Rattle.std.proofs.Common.{◌≡◌, ℕ, zero, suc, ◌+◌, ◌*◌, ◌≤◌, List, [], ◌∷◌, ◌++◌, Option, refl, sym, ap, ◌∙◌, subst, length, length-append, length-drop, take, drop, ◌-◌, arith}
use Rattle.std.proofs.lemmas.List.{length-take}
use Rattle.std.specs.Prelude.{replicate}
use Rattle.xen_netif.specs.Copy.{bytes_of}
use Rattle.xen_page.specs.Access.{Performs}
use Rattle.xen_page.specs.Run.{WritesRun}
use Rattle.xen_page.specs.declared.access.Access.{Access}
use Rattle.xen_page.specs.declared.access.Access.TheVariants as access
use Rattle.xen_page.specs.declared.place.Place.{Place}
use Rattle.xen_page.proofs.AccessLemmas.{performs_none, performs_then}
use Rattle.xen_page.proofs.RunLemmas.{length-bytes}
use Rattle.xen_steps.specs.Drive.{accesses}
use Rattle.xen_steps.specs.Pages.{AreWords}
use Rattle.xen_rx_fill.specs.Packets.{word_of}
use Rattle.xen_host.specs.Asks.{reads_at, writes_at}
use Rattle.xen_host.specs.Buses.{IsInBus, MayRead, behind}
use Rattle.xen_host.specs.Filling.{packet_words}
use Rattle.xen_host.proofs.AskLemmas.{packet_words_more}
use Rattle.xen_host.proofs.ChainLemmas.{words_length}
use Rattle.xen_host.proofs.WordLemmas.{reads_append, run_words, words_append, writes_append, writes_run}

-- words that are 0
pub zero_bytes : (n : ℕ) → replicate (4 * n) 0 ≡ bytes_of (replicate n 0)
zero_bytes zero = refl
zero_bytes (suc n) = let four : 4 * suc n ≡ suc (suc (suc (suc (4 * n)))) = omega arith in ap (λ m. replicate m 0) four ∙ ap (λ l. 0 ∷ 0 ∷ 0 ∷ 0 ∷ l) (zero_bytes n)

pub zero_words : (n : ℕ) → AreWords (replicate n 0)
zero_words zero = tt
zero_words (suc n) = (omega arith, zero_words n)

module _ {B : Type 0} (log : B → Option (List Access)) (gives : B → Access → B → Type 0) (size : B → ℕ) where
  -- no words
  pub none_read : (at : Place) (a : B) → MayRead log gives size a at [] a
  none_read at a = record { performed = λ h. performs_none log gives a; below = tt; sized = refl }

  -- words that aren't in the bus's pages
  pub unread : (at : Place) (ws : List ℕ) (a : B) → AreWords ws → (IsInBus (size a) at (length ws) → ⊥) → MayRead log gives size a at ws a
  unread at ws a below outside = record { performed = λ h. absurd (outside h); below = below; sized = refl }

  -- words, and those behind them
  pub run_then : (at next : Place) (ws vs : List ℕ) (a b c : B) → next ≡ behind at (length ws) → MayRead log gives size a at ws b → MayRead log gives size b next vs c → MayRead log gives size a at (ws ++ vs) c
  run_then at next ws vs a b c e p q = record {
    performed = λ h.
        let all = length-append ws vs in
        let first = p.performed (h.0, omega (arith, h.1, all)) in
        let frame : next.frame ≡ at.frame = ap (λ (x : Place). x.frame) e in
        let word : next.word ≡ at.word + length ws = ap (λ (x : Place). x.word) e in
        let then = q.performed (omega (arith, h.0, frame, p.sized), omega (arith, h.1, all, word)) in
        let later = subst (λ (x : Place). Performs log gives b (accesses (reads_at x vs)) c) e then in
        subst (λ l. Performs log gives a l c) (sym (reads_append at ws vs))
        (performs_then log gives a b c (accesses (reads_at at ws)) (accesses (reads_at (behind at (length ws)) vs)) first later);
    below = words_append ws vs p.below q.below;
    sized = q.sized ∙ p.sized;
  }

  -- ---- what is written

  -- whole words of a packet
  pub run_written : (at : Place) (packet : List ℕ) (from n : ℕ) (old new : B) → 4 * from + 4 * n ≤ length packet → WritesRun log gives at old (take (4 * from + 4 * n - 4 * from) (drop (4 * from) packet)) new →
      Performs log gives old (accesses (writes_at at (packet_words packet from n))) new
  run_written at packet from n old new whole run =
      let ws = run.words in
      let part = drop (4 * from) packet in
      let k = 4 * from + 4 * n - 4 * from in
      let taken : length (take k part) ≡ 4 * n = omega (arith, length-take k part, length-drop (4 * from) packet, whole) in
      let count : 4 * length ws ≡ 4 * n = sym (length-bytes ws) ∙ ap length (sym run.told) ∙ taken in
      let same : length ws ≡ n = omega (arith, count) in
      let all : k ≡ 4 * length ws = omega (arith, count) in
      let is : ws ≡ packet_words packet from n = run_words packet ws from run.below (sym run.told ∙ ap (λ x. take x part) all) ∙ ap (packet_words packet from) same in
      subst (λ l. Performs log gives old l new) (writes_run at ws ∙ ap (λ l. accesses (writes_at at l)) is) run.performed

  -- and the word behind them
  pub last_written : (at : Place) (packet : List ℕ) (from n v : ℕ) (old mid new : B) → v ≡ word_of packet (from + n) → Performs log gives old (accesses (writes_at at (packet_words packet from n))) mid → Performs log gives mid (access.Write (behind at n) v ∷ []) new →
      Performs log gives old (accesses (writes_at at (packet_words packet from (n + 1)))) new
  last_written at packet from n v old mid new is p q =
      let ws = packet_words packet from n in
      let word = word_of packet (from + n) in
      let one = subst (λ x. Performs log gives mid (access.Write (behind at n) x ∷ []) new) is q in
      let split : accesses (writes_at at (packet_words packet from (n + 1))) ≡ accesses (writes_at at ws) ++ access.Write (behind at n) word ∷ [] =
      ap (λ l. accesses (writes_at at l)) (packet_words_more packet from n) ∙ writes_append at ws (word ∷ []) ∙ ap (λ k. accesses (writes_at at ws) ++ access.Write (behind at k) word ∷ []) (words_length packet from n) in
      subst (λ l. Performs log gives old l new) (sym split) (performs_then log gives old mid new (accesses (writes_at at ws)) (access.Write (behind at n) word ∷ []) p one)
