-- The slots of lists of packets.
use Rattle.std.proofs.Common.{◌≡◌, ℕ, zero, suc, ◌+◌, ◌<◌, List, [], ◌∷◌, ◌++◌, length, length-append, append_assoc, refl, sym, ◌∙◌, ap, arith}
use Rattle.std.proofs.lemmas.List.{get_or_append_left, get_or-append-add}
use Rattle.honest_pair.specs.Invariant.Ghosts.{AllOf, IsSent, Sent, Piece, pieces_from, pieces_in, slots, piece, bytes_in}

pub slots_append : (a b : List Sent) → slots (a ++ b) ≡ slots a ++ slots b
slots_append [] b = refl
slots_append (s ∷ a) b = ap (λ l. pieces_in s ++ l) (slots_append a b) ∙ sym (append_assoc (pieces_in s) (slots a) (slots b))

pub slots_count : (a b : List Sent) → length (slots (a ++ b)) ≡ length (slots a) + length (slots b)
slots_count a b = ap length (slots_append a b) ∙ length-append (slots a) (slots b)

pub pieces_count : (p : List ℕ) (n k : ℕ) (ids : List ℕ) → length (pieces_from p n k ids) ≡ length ids
pieces_count p n k [] = refl
pieces_count p n k (id ∷ ids) = ap (λ m. suc m) (pieces_count p n (k + 1) ids)

pub nil_right : {A : Type 0} (l : List A) → l ++ [] ≡ l
nil_right [] = refl
nil_right (x ∷ l) = ap (λ t. x ∷ t) (nil_right l)

pub piece_left : (a b : List Piece) (n : ℕ) → n < length a → piece (a ++ b) n ≡ piece a n
piece_left a b n h = get_or_append_left a b (record { bytes = []; n = 0; k = 0; id = 0 }) n h

pub piece_right : (a b : List Piece) (n : ℕ) → piece (a ++ b) (length a + n) ≡ piece b n
piece_right a b n = get_or-append-add a b n (record { bytes = []; n = 0; k = 0; id = 0 })

-- what holds of each piece of each packet holds of each slot
pub each_piece : (P : Piece → Type 0) (a b : List Piece) → ((n : ℕ) → n < length a → P (piece a n)) → ((n : ℕ) → n < length b → P (piece b n)) → (n : ℕ) → n < length (a ++ b) → P (piece (a ++ b) n)
each_piece P [] b f g n h = g n h
each_piece P (x ∷ a) b f g zero h = f 0 (omega arith)
each_piece P (x ∷ a) b f g (suc n) h = each_piece P a b (λ i p. f (suc i) (omega (arith, p))) g n (omega (arith, h))

small_pieces : (p : List ℕ) (m k : ℕ) (ids : List ℕ) → AllOf (λ i. i < 256) ids → (n : ℕ) → n < length (pieces_from p m k ids) → (piece (pieces_from p m k ids) n).id < 256
small_pieces p m k [] h n q = absurd (omega (arith, q))
small_pieces p m k (id ∷ ids) h zero q = h.0
small_pieces p m k (id ∷ ids) h (suc n) q = small_pieces p m (k + 1) ids h.1 n (omega (arith, q))

pub small_ids : (l : List Sent) → AllOf IsSent l → (n : ℕ) → n < length (slots l) → (piece (slots l) n).id < 256
small_ids [] h n q = absurd (omega (arith, q))
small_ids (s ∷ l) h n q = each_piece (λ x. x.id < 256) (pieces_in s) (slots l) (small_pieces s.bytes (length s.ids) 0 s.ids h.0.ids) (small_ids l h.1) n q

pub all_right : {A : Type 0} (P : A → Type 0) (a b : List A) → AllOf P (a ++ b) → AllOf P b
all_right P [] b h = h
all_right P (x ∷ a) b h = all_right P a b h.1

pub bytes_append : (a b : List Sent) → bytes_in (a ++ b) ≡ bytes_in a ++ bytes_in b
bytes_append [] b = refl
bytes_append (x ∷ a) b = ap (λ l. x.bytes ∷ l) (bytes_append a b)
