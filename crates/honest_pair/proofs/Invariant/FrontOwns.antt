-- Where the front writes, and where what the invariant speaks of stands.
use Rattle.std.proofs.Common.{◌≡◌, ℕ, ◌+◌, ◌*◌, ◌/◌, ◌%◌, ◌<◌, ◌≤◌, length}
use Rattle.xen_buffers.specs.declared.wiring.FrontWiring.{FrontWiring}
use Rattle.xen_page.specs.declared.place.Place.{Place}
use Rattle.xen_steps.specs.Places.{add32}
use Rattle.honest_pair.specs.Invariant.Ghosts.{Front, tx_sent}
use Rattle.honest_pair.specs.Invariant.Inv.{IsFree, IsFreePost}

module _ (w : FrontWiring) (start : ℕ) where
  -- A place that a front in this state may write: `h` is 1 where the producers are among them.
  pub data Own (h : ℕ) (f : Front) (at : Place) : Type 0 where
    in_tx : (n j : ℕ) → tx_sent f ≤ n → n < f.taken + 256 → j < 3 → at.frame ≡ 17 → at.word ≡ 16 + 3 * (add32 start n % 256) + j → Own h f at
    tx_lent : (i k : ℕ) → i < 256 → IsFree w start f i → k < 2 → at.frame ≡ 1 → at.word ≡ 4 + 2 * i + k → Own h f at
    tx_mem : (i : ℕ) → i < 256 → IsFree w start f i → at.frame ≡ 19 + i → Own h f at
    tx_prod : at.word < h → at.frame ≡ 17 → Own h f at
    tx_event : at.word ≡ 3 → at.frame ≡ 17 → Own h f at
    in_rx : (n j : ℕ) → length f.posts ≤ n → n < f.got + 256 → j < 2 → at.frame ≡ 18 → at.word ≡ 16 + 2 * (add32 start n % 256) + j → Own h f at
    rx_lent : (i k : ℕ) → i < 256 → IsFreePost w start f i → k < 2 → at.frame ≡ 1 + (258 + i) / 512 → at.word ≡ 2 * ((258 + i) % 512) + k → Own h f at
    rx_prod : at.word < h → at.frame ≡ 18 → Own h f at
    rx_event : at.word ≡ 3 → at.frame ≡ 18 → Own h f at

  -- A place whose word the invariant fixes, the front's notes aside.
  pub data Kept (h : ℕ) (f : Front) (x : Place) : Type 0 where
    tx_head : h ≤ x.word → x.word < 3 → x.frame ≡ 17 → Kept h f x
    tx_slot : (n j : ℕ) → f.taken ≤ n → n < tx_sent f → j < 3 → x.frame ≡ 17 → x.word ≡ 16 + 3 * (add32 start n % 256) + j → Kept h f x
    tx_grant : (i k : ℕ) → i < 256 → (IsFree w start f i → ⊥) → k < 2 → x.frame ≡ 1 → x.word ≡ 4 + 2 * i + k → Kept h f x
    tx_held : (i : ℕ) → i < 256 → (IsFree w start f i → ⊥) → x.frame ≡ 19 + i → Kept h f x
    rx_head : h ≤ x.word → x.word < 3 → x.frame ≡ 18 → Kept h f x
    rx_slot : (n j : ℕ) → f.got ≤ n → n < length f.posts → j < 2 → x.frame ≡ 18 → x.word ≡ 16 + 2 * (add32 start n % 256) + j → Kept h f x
    rx_grant : (i k : ℕ) → i < 256 → (IsFreePost w start f i → ⊥) → k < 2 → x.frame ≡ 1 + (258 + i) / 512 → x.word ≡ 2 * ((258 + i) % 512) + k → Kept h f x
    rx_held : (i : ℕ) → i < 256 → x.frame ≡ 275 + i → Kept h f x
