-- What a send's writes make stand in memory.
use Rattle.honest_pair.proofs.Invariant.Lists.{all_right}
use Rattle.honest_pair.proofs.Invariant.Puts.{add_add}
use Rattle.std.proofs.Common.{◌≡◌, ℕ, zero, suc, ◌+◌, ◌*◌, ◌<◌, List, [], ◌∷◌, length, get_or, refl, sym, ◌∙◌, ap, arith, subst}
use Rattle.xen_buffers.specs.Grants.{buffer}
use Rattle.xen_buffers.specs.declared.wiring.FrontWiring.{FrontWiring}
use Rattle.xen_front.specs.Slots.{page_writes, slot_writes, piece_writes, send_writes, piece_words, word_at}
use Rattle.xen_page.specs.declared.place.Place.{Place}
use Rattle.xen_steps.specs.Pages.{PageWrite}
use Rattle.xen_steps.specs.Places.{add32, page_word, tx_entry}
use Rattle.honest_pair.specs.Invariant.Ghosts.{Piece, piece, pieces_from, AllOf}
use Rattle.honest_pair.specs.Invariant.Inv.{tx_at, tx_buffer, tx_words, IsLent}
use Rattle.honest_pair.proofs.Invariant.FrontPieces.{all_left, Differ}

pub all_at : (P : ℕ → Type 0) (ids : List ℕ) → AllOf P ids → (k : ℕ) → k < length ids → P (get_or ids k 0)
all_at P [] h k l = absurd (omega arith)
all_at P (i ∷ ids) h zero l = h.0
all_at P (i ∷ ids) h (suc k) l = all_at P ids h.1 k (omega arith)

pub differ_at : (ids : List ℕ) → Differ ids → (i j : ℕ) → i < j → j < length ids → get_or ids i 0 ≡ get_or ids j 0 → ⊥
differ_at [] h i j p q = absurd (omega arith)
differ_at (x ∷ ids) h zero zero p q = absurd (omega arith)
differ_at (x ∷ ids) h zero (suc j) p q = λ e. all_at (λ y. y ≡ x → ⊥) ids h.0 j (omega arith) (sym e)
differ_at (x ∷ ids) h (suc i) zero p q = absurd (omega arith)
differ_at (x ∷ ids) h (suc i) (suc j) p q = differ_at ids h.1 i j (omega arith) (omega arith)

pub id_of_piece : (p : List ℕ) (n d : ℕ) (ids : List ℕ) (k : ℕ) → (piece (pieces_from p n d ids) k).id ≡ get_or ids k 0
id_of_piece p n d [] k = refl
id_of_piece p n d (i ∷ ids) zero = refl
id_of_piece p n d (i ∷ ids) (suc k) = id_of_piece p n (d + 1) ids k

module _ (w : FrontWiring) (start : ℕ) (x : Place → ℕ) where
  abbrev pub Stood : PageWrite → Type 0
  Stood n = x n.at ≡ n.value

  -- a piece, as the slot of this position
  pub record PieceStands (q : Piece) (pos : ℕ) : Type 0 where
    pub slot : (j : ℕ) → j < 3 → x (tx_at w start pos j) ≡ get_or (tx_words w start q) j 0
    pub grant : IsLent w start x (tx_buffer w start q.id) 5
    pub page : (j : ℕ) → j < piece_words (length q.bytes) q.k → x (page_word (tx_buffer w start q.id).frame j) ≡ word_at q.bytes (4096 * q.k + 4 * j)

  page_stands : (p : List ℕ) (frame k left d : ℕ) → AllOf Stood (page_writes p frame k left d) → (j : ℕ) → j < left → x (page_word frame (d + j)) ≡ word_at p (4096 * k + 4 * (d + j))
  page_stands p frame k zero d h j l = absurd (omega arith)
  page_stands p frame k (suc left) d h zero l = let e : d + 0 ≡ d = omega arith in rw e h.0
  page_stands p frame k (suc left) d h (suc j) l = let e : d + suc j ≡ d + 1 + j = omega arith in rw e (page_stands p frame k left (d + 1) h.1 j (omega arith))

  slot_stands : (s d : ℕ) (a b c : ℕ) → x (tx_entry w.tx_frame (add32 (add32 start s) d) 0) ≡ a → x (tx_entry w.tx_frame (add32 (add32 start s) d) 1) ≡ b → x (tx_entry w.tx_frame (add32 (add32 start s) d) 2) ≡ c →
      (j : ℕ) → j < 3 → x (tx_at w start (s + d) j) ≡ get_or (a ∷ b ∷ c ∷ []) j 0
  slot_stands s d a b c p q r zero l = ap (λ i. x (tx_entry w.tx_frame i 0)) (sym (add_add start s d)) ∙ p
  slot_stands s d a b c p q r (suc zero) l = ap (λ i. x (tx_entry w.tx_frame i 1)) (sym (add_add start s d)) ∙ q
  slot_stands s d a b c p q r (suc (suc zero)) l = ap (λ i. x (tx_entry w.tx_frame i 2)) (sym (add_add start s d)) ∙ r
  slot_stands s d a b c p q r (suc (suc (suc j))) l = absurd (omega arith)

  piece_stands : (s : ℕ) (p : List ℕ) (n d id : ℕ) → AllOf Stood (piece_writes w (add32 start s) p n d id) → PieceStands (record { bytes = p; n = n; k = d; id = id }) (s + d)
  piece_stands s p n d id h =
      let b = buffer w.tx.now id in
      let pages = page_writes p b.frame d (piece_words (length p) d) 0 in
      let words = slot_writes w (add32 start s) p n d id in
      let last = all_right Stood pages words h.1.1 in
      record {
        slot = slot_stands s d _ _ _ last.0 last.1.0 last.1.1.0;
        grant = record { frame = h.0; flags = h.1.0 };
        page = (λ j l. let e : 0 + j ≡ j = omega arith in subst (λ i. x (page_word b.frame i) ≡ word_at p (4096 * d + 4 * i)) e (page_stands p b.frame d (piece_words (length p) d) 0 (all_left Stood pages words h.1.1) j l));
      }

  pub send_stands : (s : ℕ) (p : List ℕ) (n d : ℕ) (ids : List ℕ) → AllOf Stood (send_writes w (add32 start s) p n d ids) → (k : ℕ) → k < length ids → PieceStands (piece (pieces_from p n d ids) k) (s + d + k)
  send_stands s p n d [] h k l = absurd (omega arith)
  send_stands s p n d (id ∷ ids) h zero l =
      let e : s + d + 0 ≡ s + d = omega arith in
      rw e (piece_stands s p n d id (all_left Stood (piece_writes w (add32 start s) p n d id) (send_writes w (add32 start s) p n (d + 1) ids) h))
  send_stands s p n d (id ∷ ids) h (suc k) l =
      let e : s + d + suc k ≡ s + (d + 1) + k = omega arith in
      rw e (send_stands s p n (d + 1) ids (all_right Stood (piece_writes w (add32 start s) p n d id) (send_writes w (add32 start s) p n (d + 1) ids) h) k (omega arith))
