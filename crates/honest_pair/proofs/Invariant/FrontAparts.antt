-- The front writes at no place whose word the invariant fixes.
use Rattle.std.proofs.Common.{◌≡◌, ℕ, ◌+◌, ◌*◌, ◌%◌, ◌<◌, ◌≤◌, subst, arith}
use Rattle.xen_buffers.specs.declared.wiring.FrontWiring.{FrontWiring}
use Rattle.xen_page.specs.declared.place.Place.{Place}
use Rattle.xen_steps.specs.Places.{add32}
use Rattle.honest_pair.specs.Invariant.Ghosts.{Front}
use Rattle.honest_pair.specs.Invariant.Inv.{IsFree, IsFreePost}
use Rattle.honest_pair.proofs.Invariant.FrontOwns.{Own, in_tx, tx_lent, tx_mem, tx_prod, tx_event, in_rx, rx_lent, rx_prod, rx_event, Kept, tx_head, tx_slot, tx_grant, tx_held, rx_head, rx_slot, rx_grant, rx_held}

-- words of slots less than a round apart
pub tx_round : (s a b j k : ℕ) → a < b → b < a + 256 → j < 3 → k < 3 → 16 + 3 * (add32 s a % 256) + j ≡ 16 + 3 * (add32 s b % 256) + k → ⊥
tx_round s a b j k p q r t e = omega arith

pub rx_round : (s a b j k : ℕ) → a < b → b < a + 256 → j < 2 → k < 2 → 16 + 2 * (add32 s a % 256) + j ≡ 16 + 2 * (add32 s b % 256) + k → ⊥
rx_round s a b j k p q r t e = omega arith

module _ (w : FrontWiring) (start : ℕ) (h : ℕ) (few : h ≤ 1) (f : Front) (at x : Place) where
  pub apart : Own w start h f at → Kept w start h f x → x.frame ≡ at.frame → x.word ≡ at.word → ⊥
  apart (in_tx n j a b c d e) (tx_head A B D) u v = omega arith
  apart (in_tx n j a b c d e) (tx_slot N J A B C D E) u v = tx_round start N n J j (omega arith) (omega arith) C c (omega arith)
  apart (in_tx n j a b c d e) (tx_grant I K A busy B D E) u v = omega arith
  apart (in_tx n j a b c d e) (tx_held I A busy D) u v = omega arith
  apart (in_tx n j a b c d e) (rx_head A B D) u v = omega arith
  apart (in_tx n j a b c d e) (rx_slot N J A B C D E) u v = omega arith
  apart (in_tx n j a b c d e) (rx_grant I K A busy B D E) u v = omega arith
  apart (in_tx n j a b c d e) (rx_held I A D) u v = omega arith
  apart (tx_lent i k a free b d e) (tx_head A B D) u v = omega arith
  apart (tx_lent i k a free b d e) (tx_slot N J A B C D E) u v = omega arith
  apart (tx_lent i k a free b d e) (tx_grant I K A busy B D E) u v = let s : i ≡ I = omega arith in busy (subst (λ t. IsFree w start f t) s free)
  apart (tx_lent i k a free b d e) (tx_held I A busy D) u v = omega arith
  apart (tx_lent i k a free b d e) (rx_head A B D) u v = omega arith
  apart (tx_lent i k a free b d e) (rx_slot N J A B C D E) u v = omega arith
  apart (tx_lent i k a free b d e) (rx_grant I K A busy B D E) u v = omega arith
  apart (tx_lent i k a free b d e) (rx_held I A D) u v = omega arith
  apart (tx_mem i a free d) (tx_head A B D) u v = omega arith
  apart (tx_mem i a free d) (tx_slot N J A B C D E) u v = omega arith
  apart (tx_mem i a free d) (tx_grant I K A busy B D E) u v = omega arith
  apart (tx_mem i a free d) (tx_held I A busy D) u v = let s : i ≡ I = omega arith in busy (subst (λ t. IsFree w start f t) s free)
  apart (tx_mem i a free d) (rx_head A B D) u v = omega arith
  apart (tx_mem i a free d) (rx_slot N J A B C D E) u v = omega arith
  apart (tx_mem i a free d) (rx_grant I K A busy B D E) u v = omega arith
  apart (tx_mem i a free d) (rx_held I A D) u v = omega arith
  apart (tx_prod a d) (tx_head A B D) u v = omega arith
  apart (tx_prod a d) (tx_slot N J A B C D E) u v = omega arith
  apart (tx_prod a d) (tx_grant I K A busy B D E) u v = omega arith
  apart (tx_prod a d) (tx_held I A busy D) u v = omega arith
  apart (tx_prod a d) (rx_head A B D) u v = omega arith
  apart (tx_prod a d) (rx_slot N J A B C D E) u v = omega arith
  apart (tx_prod a d) (rx_grant I K A busy B D E) u v = omega arith
  apart (tx_prod a d) (rx_held I A D) u v = omega arith
  apart (tx_event a d) (tx_head A B D) u v = omega arith
  apart (tx_event a d) (tx_slot N J A B C D E) u v = omega arith
  apart (tx_event a d) (tx_grant I K A busy B D E) u v = omega arith
  apart (tx_event a d) (tx_held I A busy D) u v = omega arith
  apart (tx_event a d) (rx_head A B D) u v = omega arith
  apart (tx_event a d) (rx_slot N J A B C D E) u v = omega arith
  apart (tx_event a d) (rx_grant I K A busy B D E) u v = omega arith
  apart (tx_event a d) (rx_held I A D) u v = omega arith
  apart (in_rx n j a b c d e) (tx_head A B D) u v = omega arith
  apart (in_rx n j a b c d e) (tx_slot N J A B C D E) u v = omega arith
  apart (in_rx n j a b c d e) (tx_grant I K A busy B D E) u v = omega arith
  apart (in_rx n j a b c d e) (tx_held I A busy D) u v = omega arith
  apart (in_rx n j a b c d e) (rx_head A B D) u v = omega arith
  apart (in_rx n j a b c d e) (rx_slot N J A B C D E) u v = rx_round start N n J j (omega arith) (omega arith) C c (omega arith)
  apart (in_rx n j a b c d e) (rx_grant I K A busy B D E) u v = omega arith
  apart (in_rx n j a b c d e) (rx_held I A D) u v = omega arith
  apart (rx_lent i k a free b d e) (tx_head A B D) u v = omega arith
  apart (rx_lent i k a free b d e) (tx_slot N J A B C D E) u v = omega arith
  apart (rx_lent i k a free b d e) (tx_grant I K A busy B D E) u v = omega arith
  apart (rx_lent i k a free b d e) (tx_held I A busy D) u v = omega arith
  apart (rx_lent i k a free b d e) (rx_head A B D) u v = omega arith
  apart (rx_lent i k a free b d e) (rx_slot N J A B C D E) u v = omega arith
  apart (rx_lent i k a free b d e) (rx_grant I K A busy B D E) u v = let s : i ≡ I = omega arith in busy (subst (λ t. IsFreePost w start f t) s free)
  apart (rx_lent i k a free b d e) (rx_held I A D) u v = omega arith
  apart (rx_prod a d) (tx_head A B D) u v = omega arith
  apart (rx_prod a d) (tx_slot N J A B C D E) u v = omega arith
  apart (rx_prod a d) (tx_grant I K A busy B D E) u v = omega arith
  apart (rx_prod a d) (tx_held I A busy D) u v = omega arith
  apart (rx_prod a d) (rx_head A B D) u v = omega arith
  apart (rx_prod a d) (rx_slot N J A B C D E) u v = omega arith
  apart (rx_prod a d) (rx_grant I K A busy B D E) u v = omega arith
  apart (rx_prod a d) (rx_held I A D) u v = omega arith
  apart (rx_event a d) (tx_head A B D) u v = omega arith
  apart (rx_event a d) (tx_slot N J A B C D E) u v = omega arith
  apart (rx_event a d) (tx_grant I K A busy B D E) u v = omega arith
  apart (rx_event a d) (tx_held I A busy D) u v = omega arith
  apart (rx_event a d) (rx_head A B D) u v = omega arith
  apart (rx_event a d) (rx_slot N J A B C D E) u v = omega arith
  apart (rx_event a d) (rx_grant I K A busy B D E) u v = omega arith
  apart (rx_event a d) (rx_held I A D) u v = omega arith
