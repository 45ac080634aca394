-- A send's writes are at the front's own places, and at no place twice.
use Rattle.honest_pair.proofs.Invariant.Puts.{add_add}
use Rattle.std.proofs.Common.{◌≡◌, ℕ, zero, suc, ◌+◌, ◌*◌, ◌%◌, ◌<◌, ◌≤◌, List, [], ◌∷◌, ◌++◌, length, refl, sym, ◌∙◌, ap, arith, subst}
use Rattle.xen_buffers.specs.Grants.{buffer, grant_place}
use Rattle.xen_buffers.specs.declared.wiring.FrontWiring.{FrontWiring}
use Rattle.xen_front.specs.Slots.{page_writes, slot_writes, filling, piece_writes, send_writes, piece_words}
use Rattle.xen_page.specs.Mapping.{frame_place}
use Rattle.xen_page.specs.declared.place.Place.{Place}
use Rattle.xen_steps.specs.Pages.{PageWrite}
use Rattle.xen_steps.specs.Places.{add32, page_word, tx_entry}
use Rattle.honest_pair.specs.Invariant.Ghosts.{Front, tx_sent, AllOf}
use Rattle.honest_pair.specs.Invariant.Inv.{IsFree, IsFronts, tx_slot, tx_flags, tx_frame, tx_page}
use Rattle.honest_pair.specs.Invariant.Numbers.{Numbers}
use Rattle.honest_pair.proofs.Invariant.FrontAparts.{tx_round}
use Rattle.honest_pair.proofs.Invariant.FrontWrites.{Clear, Spread}

pub all_map : {A : Type 0} (P Q : A → Type 0) → ((x : A) → P x → Q x) → (l : List A) → AllOf P l → AllOf Q l
all_map P Q f [] h = tt
all_map P Q f (x ∷ l) h = (f x h.0, all_map P Q f l h.1)

pub all_append : {A : Type 0} (P : A → Type 0) (a b : List A) → AllOf P a → AllOf P b → AllOf P (a ++ b)
all_append P [] b h k = k
all_append P (x ∷ a) b h k = (h.0, all_append P a b h.1 k)

pub all_left : {A : Type 0} (P : A → Type 0) (a b : List A) → AllOf P (a ++ b) → AllOf P a
all_left P [] b h = tt
all_left P (x ∷ a) b h = (h.0, all_left P a b h.1)

pub spread_append : (a b : List PageWrite) → Spread a → Spread b → AllOf (λ x. AllOf (λ y. Clear x.at y.at) b) a → Spread (a ++ b)
spread_append [] b h k c = k
spread_append (x ∷ a) b h k c = (all_append (λ y. Clear x.at y.at) a b h.0 c.0, spread_append a b h.1 k c.1)

-- no number stands twice
abbrev pub Differ : List ℕ → Type 0
Differ [] = Unit {0}
Differ (i ∷ ids) = AllOf (λ j. j ≡ i → ⊥) ids × Differ ids

-- the words of a page from the j-th on
pub pages_from : (p : List ℕ) (frame k left j : ℕ) → AllOf (λ n. (n.at.frame ≡ frame) × (j ≤ n.at.word)) (page_writes p frame k left j)
pages_from p frame k zero j = tt
pages_from p frame k (suc left) j =
    ((refl, omega arith), all_map (λ n. (n.at.frame ≡ frame) × (j + 1 ≤ n.at.word)) (λ n. (n.at.frame ≡ frame) × (j ≤ n.at.word)) (λ n h. let a = h.1 in (h.0, omega arith)) (page_writes p frame k left (j + 1)) (pages_from p frame k left (j + 1)))

pages_spread : (p : List ℕ) (frame k left j : ℕ) → Spread (page_writes p frame k left j)
pages_spread p frame k zero j = tt
pages_spread p frame k (suc left) j = (
  all_map (λ n. (n.at.frame ≡ frame) × (j + 1 ≤ n.at.word)) (λ n. Clear (page_word frame j) n.at) (λ n h u v. let a = h.1 in omega arith) (page_writes p frame k left (j + 1)) (pages_from p frame k left (j + 1)),
  pages_spread p frame k left (j + 1),
)

module _ (w : FrontWiring) (laid : Numbers w) (start s : ℕ) where
  -- a place of the k-th piece, in the buffer of this id; the first piece is the s-th slot
  pub data In (k id : ℕ) (at : Place) : Type 0 where
    lent : (e : ℕ) → e < 2 → at.frame ≡ 1 → at.word ≡ 4 + 2 * id + e → In k id at
    paged : at.frame ≡ 19 + id → In k id at
    slotted : (j : ℕ) → j < 3 → at.frame ≡ 17 → at.word ≡ 16 + 3 * (add32 start (s + k) % 256) + j → In k id at

  clear_in : (k i l j : ℕ) (a b : Place) → In k i a → In l j b → k < l → l < k + 256 → (j ≡ i → ⊥) → i < 256 → j < 256 → Clear a b
  clear_in k i l j a b (lent e p q r) (lent e' p' q' r') x y n c d u v = n (omega arith)
  clear_in k i l j a b (lent e p q r) (paged q') x y n c d u v = omega arith
  clear_in k i l j a b (lent e p q r) (slotted j' p' q' r') x y n c d u v = omega arith
  clear_in k i l j a b (paged q) (lent e' p' q' r') x y n c d u v = omega arith
  clear_in k i l j a b (paged q) (paged q') x y n c d u v = n (omega arith)
  clear_in k i l j a b (paged q) (slotted j' p' q' r') x y n c d u v = omega arith
  clear_in k i l j a b (slotted j' p q r) (lent e' p' q' r') x y n c d u v = omega arith
  clear_in k i l j a b (slotted j' p q r) (paged q') x y n c d u v = omega arith
  clear_in k i l j a b (slotted j' p q r) (slotted j'' p' q' r') x y n c d u v = tx_round start (s + k) (s + l) j' j'' (omega arith) (omega arith) p p' (omega arith)

  index : (k j : ℕ) → 16 + 3 * (add32 (add32 start s) k % 256) + j ≡ 16 + 3 * (add32 start (s + k) % 256) + j
  index k j = ap (λ x. 16 + 3 * (x % 256) + j) (add_add start s k)

  slot_in : (p : List ℕ) (n k id : ℕ) → AllOf (λ x. In k id x.at) (slot_writes w (add32 start s) p n k id)
  slot_in p n k id =
      (slotted 0 (omega arith) laid.tx_ring (index k 0), (slotted 1 (omega arith) laid.tx_ring (index k 1), (slotted 2 (omega arith) laid.tx_ring (index k 2), tt)))

  filling_in : (p : List ℕ) (n k id left j : ℕ) → id < 256 → AllOf (λ x. In k id x.at) (filling w (add32 start s) p n k id left j)
  filling_in p n k id left j small =
      let b = buffer w.tx.now id in
      all_append (λ x. In k id x.at) (page_writes p b.frame k left j) (slot_writes w (add32 start s) p n k id)
      (all_map (λ x. (x.at.frame ≡ b.frame) × (j ≤ x.at.word)) (λ x. In k id x.at) (λ x h. paged (h.0 ∙ laid.tx_page id small)) (page_writes p b.frame k left j) (pages_from p b.frame k left j))
      (slot_in p n k id)

  pub piece_in : (p : List ℕ) (n k id : ℕ) → id < 256 → AllOf (λ x. In k id x.at) (piece_writes w (add32 start s) p n k id)
  piece_in p n k id small =
      let q = laid.tx_word id small in
      (lent 1 (omega arith) (laid.tx_frame id small) (omega arith), (lent 0 (omega arith) (laid.tx_frame id small) (omega arith), filling_in p n k id (piece_words (length p) k) 0 small))

  filling_spread : (p : List ℕ) (n k id left j : ℕ) → id < 256 → Spread (filling w (add32 start s) p n k id left j)
  filling_spread p n k id left j small =
      let b = buffer w.tx.now id in
      spread_append (page_writes p b.frame k left j) (slot_writes w (add32 start s) p n k id) (pages_spread p b.frame k left j)
      (((λ u v. omega arith), ((λ u v. omega arith), tt)), (((λ u v. omega arith), tt), (tt, tt)))
      (all_map (λ x. (x.at.frame ≡ b.frame) × (j ≤ x.at.word)) (λ x. AllOf (λ y. Clear x.at y.at) (slot_writes w (add32 start s) p n k id))
      (λ x h. let c = laid.tx_page id small in let d = laid.tx_ring in let e = h.0 in ((λ u v. omega arith), ((λ u v. omega arith), ((λ u v. omega arith), tt))))
      (page_writes p b.frame k left j) (pages_from p b.frame k left j))

  -- neither a page nor a slot is in the grant table
  far : (k id : ℕ) (a : Place) → a.frame ≡ 1 → id < 256 → (l : List PageWrite) → AllOf (λ x. (x.at.frame ≡ 1 → ⊥)) l → AllOf (λ y. Clear a y.at) l
  far k id a q small l h = all_map (λ x. (x.at.frame ≡ 1 → ⊥)) (λ y. Clear a y.at) (λ x n u v. n (sym u ∙ q)) l h

  filling_far : (p : List ℕ) (n k id left j : ℕ) → id < 256 → AllOf (λ x. (x.at.frame ≡ 1 → ⊥)) (filling w (add32 start s) p n k id left j)
  filling_far p n k id left j small =
      let b = buffer w.tx.now id in
      let d = laid.tx_ring in
      all_append (λ x. (x.at.frame ≡ 1 → ⊥)) (page_writes p b.frame k left j) (slot_writes w (add32 start s) p n k id)
      (all_map (λ x. (x.at.frame ≡ b.frame) × (j ≤ x.at.word)) (λ x. (x.at.frame ≡ 1 → ⊥)) (λ x h u. let c = laid.tx_page id small in let e = h.0 in omega arith) (page_writes p b.frame k left j) (pages_from p b.frame k left j))
      ((λ u. omega arith), ((λ u. omega arith), ((λ u. omega arith), tt)))

  piece_spread : (p : List ℕ) (n k id : ℕ) → id < 256 → Spread (piece_writes w (add32 start s) p n k id)
  piece_spread p n k id small =
      let g = grant_place w (buffer w.tx.now id) in
      let ns = filling w (add32 start s) p n k id (piece_words (length p) k) 0 in
      let a = filling_far p n k id (piece_words (length p) k) 0 small in
      (((λ u v. omega arith), far k id (frame_place g) (laid.tx_frame id small) small ns a), (far k id g (laid.tx_frame id small) small ns a, filling_spread p n k id (piece_words (length p) k) 0 small))

  record Later (k id : ℕ) (at : Place) : Type 0 where
    pub l : ℕ
    pub j : ℕ
    pub above : k < l
    pub near : l < k + 256
    pub other : j ≡ id → ⊥
    pub small : j < 256
    pub place : In l j at

  later_in : (p : List ℕ) (n k id d : ℕ) (ids : List ℕ) → AllOf (λ j. j ≡ id → ⊥) ids → AllOf (λ j. j < 256) ids → k < d → d + length ids ≤ k + 256 → AllOf (λ x. Later k id x.at) (send_writes w (add32 start s) p n d ids)
  later_in p n k id d [] a b lt room = tt
  later_in p n k id d (i ∷ ids) a b lt room =
      all_append (λ x. Later k id x.at) (piece_writes w (add32 start s) p n d i) (send_writes w (add32 start s) p n (d + 1) ids)
      (all_map (λ x. In d i x.at) (λ x. Later k id x.at) (λ x h. record { l = d; j = i; above = lt; near = omega arith; other = a.0; small = b.0; place = h }) (piece_writes w (add32 start s) p n d i) (piece_in p n d i b.0))
      (later_in p n k id (d + 1) ids a.1 b.1 (omega arith) (omega arith))

  pub send_spread : (p : List ℕ) (n k : ℕ) (ids : List ℕ) → Differ ids → AllOf (λ j. j < 256) ids → length ids ≤ 256 → Spread (send_writes w (add32 start s) p n k ids)
  send_spread p n k [] a b room = tt
  send_spread p n k (id ∷ ids) a b room =
      let mine = piece_writes w (add32 start s) p n k id in
      let rest = send_writes w (add32 start s) p n (k + 1) ids in
      spread_append mine rest (piece_spread p n k id b.0) (send_spread p n (k + 1) ids a.1 b.1 (omega arith))
      (all_map (λ x. In k id x.at) (λ x. AllOf (λ y. Clear x.at y.at) rest)
      (λ x h. all_map (λ y. Later k id y.at) (λ y. Clear x.at y.at) (λ y g. clear_in k id g.l g.j x.at y.at h g.place g.above g.near g.other b.0 g.small) rest (later_in p n k id (k + 1) ids a.0 b.1 (omega arith) (omega arith)))
      mine (piece_in p n k id b.0))

-- and all are the front's own
module _ (w : FrontWiring) (start : ℕ) (f : Front) where
  slot_own : (k j : ℕ) → tx_sent f + k < f.taken + 256 → j < 3 → IsFronts w start f (tx_entry w.tx_frame (add32 (add32 start (tx_sent f)) k) j)
  slot_own k j room small = subst (λ x. IsFronts w start f (tx_entry w.tx_frame x j)) (sym (add_add start (tx_sent f) k)) (tx_slot (tx_sent f + k) j (omega arith) room small)

  pages_own : (p : List ℕ) (i k left j : ℕ) → i < 256 → IsFree w start f i → AllOf (λ n. IsFronts w start f n.at) (page_writes p (buffer w.tx.now i).frame k left j)
  pages_own p i k zero j small free = tt
  pages_own p i k (suc left) j small free = (tx_page i j small free, pages_own p i k left (j + 1) small free)

  piece_own : (p : List ℕ) (n k id : ℕ) → id < 256 → IsFree w start f id → tx_sent f + k < f.taken + 256 → AllOf (λ x. IsFronts w start f x.at) (piece_writes w (add32 start (tx_sent f)) p n k id)
  piece_own p n k id small free room = (
    tx_frame id small free,
    (
      tx_flags id small free,
      all_append (λ x. IsFronts w start f x.at) (page_writes p (buffer w.tx.now id).frame k (piece_words (length p) k) 0) (slot_writes w (add32 start (tx_sent f)) p n k id)
          (pages_own p id k (piece_words (length p) k) 0 small free)
          (slot_own k 0 room (omega arith), (slot_own k 1 room (omega arith), (slot_own k 2 room (omega arith), tt))),
    ),
  )

  pub send_own : (p : List ℕ) (n k : ℕ) (ids : List ℕ) → AllOf (λ j. j < 256) ids → AllOf (IsFree w start f) ids → tx_sent f + k + length ids ≤ f.taken + 256 → AllOf (λ x. IsFronts w start f x.at) (send_writes w (add32 start (tx_sent f)) p n k ids)
  send_own p n k [] a b room = tt
  send_own p n k (id ∷ ids) a b room =
      all_append (λ x. IsFronts w start f x.at) (piece_writes w (add32 start (tx_sent f)) p n k id) (send_writes w (add32 start (tx_sent f)) p n (k + 1) ids)
      (piece_own p n k id a.0 b.0 (omega arith)) (send_own p n (k + 1) ids a.1 b.1 (omega arith))
