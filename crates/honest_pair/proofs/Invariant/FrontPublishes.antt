-- The push of a packet's requests.
use Rattle.std.proofs.Common.{◌≡◌, ℕ, ◌+◌, ◌-◌, ◌*◌, ◌<◌, ◌≤◌, Bool, true, false, List, [], ◌∷◌, ◌++◌, length, length-append, get_or, refl, sym, ◌∙◌, ap, arith, subst, Option, append_assoc}
use Rattle.std.specs.Prelude.{nat_lt}
use Rattle.std.proofs.Math.ListN.{get_or-append}
use Rattle.std.proofs.lemmas.Bool.Decides.{nat_tests}
use Rattle.std.proofs.lemmas.List.{get_or-append-add}
use Rattle.xen_buffers.specs.declared.wiring.FrontWiring.{FrontWiring}
use Rattle.xen_front.specs.Slots.{send_writes}
use Rattle.xen_page.specs.declared.place.Place.{Place}
use Rattle.xen_steps.specs.Places.{add32, page_word}
use Rattle.honest_pair.specs.Invariant.Ghosts.{Sent, Piece, Front, Back, tx_sent, tx_answered, slots, piece, pieces_in, IsSent, AllOf}
use Rattle.honest_pair.specs.Invariant.Inv.{tx_at, tx_buffer, TxCounts, RxCounts, TxSlots, Reading, IsFree, Heard, Inv}
use Rattle.honest_pair.proofs.Invariant.Lists.{slots_append, pieces_count}
use Rattle.honest_pair.proofs.Invariant.FrontGroups.{tx_span}
use Rattle.honest_pair.proofs.Invariant.FrontPieces.{Differ, all_append}
use Rattle.honest_pair.proofs.Invariant.FrontStands.{PieceStands, all_at, differ_at, id_of_piece, send_stands, Stood}

pieces_nil : (l : List Piece) → l ++ [] ≡ l
pieces_nil [] = refl
pieces_nil (x ∷ l) = ap (λ t. x ∷ t) (pieces_nil l)

module _ (a b : List Piece) where
  pub older : (n : ℕ) → n < length a → piece (a ++ b) n ≡ piece a n
  older n h = get_or-append a b _ n h

  pub newer : (k : ℕ) → piece (a ++ b) (length a + k) ≡ piece b k
  newer k = get_or-append-add a b k _

  -- what holds of the older pieces and of the newer holds of all
  pub each : (P : ℕ → Piece → Type 0) (from : ℕ) → ((n : ℕ) → from ≤ n → n < length a → P n (piece a n)) → ((k : ℕ) → k < length b → P (length a + k) (piece b k)) →
      (n : ℕ) → from ≤ n → n < length (a ++ b) → P n (piece (a ++ b) n)
  each P from f g n p q = by (nat_lt n (length a)) refl
    where
      by : (t : Bool) → nat_lt n (length a) ≡ t → P n (piece (a ++ b) n)
      by true t = let l : n < length a = grind (arith, nat_tests) in rw (older n l) (f n p l)
      by false t =
          let l : length a ≤ n = grind (arith, nat_tests) in
          let s : n ≡ length a + (n - length a) = omega arith in
          let e = length-append a b in
          subst (λ m. P m (piece (a ++ b) m)) (sym s) (rw (newer (n - length a)) (g (n - length a) (omega arith)))

-- a push of a packet, whose notice is still to be decided
abbrev pub pushed : Front → Sent → Option ℕ → Front
pushed f s win = record f { sent = f.sent ++ s ∷ []; unsent = []; notes = []; window = win }

pub slots_one : (l : List Sent) (s : Sent) → slots (l ++ s ∷ []) ≡ slots l ++ pieces_in s
slots_one l s = slots_append l (s ∷ []) ∙ ap (λ t. slots l ++ t) (pieces_nil (pieces_in s))

pub sent_one : (f : Front) (s : Sent) (win : Option ℕ) → tx_sent (pushed f s win) ≡ tx_sent f + length s.ids
sent_one f s win = ap length (slots_one f.sent s) ∙ length-append (slots f.sent) (pieces_in s) ∙ ap (λ n. tx_sent f + n) (pieces_count s.bytes (length s.ids) 0 s.ids)

-- what a send may publish
pub record Sendable (w : FrontWiring) (start : ℕ) (f : Front) (s : Sent) : Type 0 where
  pub good : IsSent s
  pub free : AllOf (IsFree w start f) s.ids
  pub differ : Differ s.ids
  pub room : tx_sent f + length s.ids ≤ f.taken + 256

module _ (w : FrontWiring) (start : ℕ) (f : Front) (s : Sent) (ok : Sendable w start f s) where
  new_ids : (k : ℕ) → (piece (pieces_in s) k).id ≡ get_or s.ids k 0
  new_ids k = id_of_piece s.bytes (length s.ids) 0 s.ids k

  news : length (pieces_in s) ≡ length s.ids
  news = pieces_count s.bytes (length s.ids) 0 s.ids

  unique_all : (b : Back) → TxCounts w start f b → (i j : ℕ) → f.taken ≤ i → i < j → j < length (slots f.sent ++ pieces_in s) →
      (piece (slots f.sent ++ pieces_in s) i).id ≡ (piece (slots f.sent ++ pieces_in s) j).id → ⊥
  unique_all b c i j p q r =
      let l = slots f.sent in let new = pieces_in s in
      each l new (λ n x. i < n → (piece (l ++ new) i).id ≡ x.id → ⊥) f.taken
      (λ n u v o. rw (older l new i (omega arith)) (c.unique i n p o v))
      (λ k v o. by k v o (nat_lt i (length l)) refl)
      j (omega arith) r q
    where
      by : (k : ℕ) → k < length (pieces_in s) → i < length (slots f.sent) + k → (t : Bool) → nat_lt i (length (slots f.sent)) ≡ t → (piece (slots f.sent ++ pieces_in s) i).id ≡ (piece (pieces_in s) k).id → ⊥
      by k v o true t =
          let u : i < length (slots f.sent) = grind (arith, nat_tests) in
          let z = news in
          rw (older (slots f.sent) (pieces_in s) i u) (rw (new_ids k) (all_at (IsFree w start f) s.ids ok.free k (omega arith) i p u))
      by k v o false t =
          let u : length (slots f.sent) ≤ i = grind (arith, nat_tests) in
          let z = news in
          let at : i ≡ length (slots f.sent) + (i - length (slots f.sent)) = omega arith in
          let e : piece (slots f.sent ++ pieces_in s) i ≡ piece (pieces_in s) (i - length (slots f.sent)) = ap (λ n. piece (slots f.sent ++ pieces_in s) n) at ∙ newer (slots f.sent) (pieces_in s) (i - length (slots f.sent)) in
          rw e (rw (new_ids (i - length (slots f.sent)), new_ids k) (differ_at s.ids ok.differ (i - length (slots f.sent)) k (omega arith) (omega arith)))

  pub tx_counts_pushed : (win : Option ℕ) (b : Back) → TxCounts w start f b → TxCounts w start (pushed f s win) b
  tx_counts_pushed win b c =
      let room = ok.room in let len = sent_one f s win in
      record {
        took = c.took;
        told = c.told;
        wrote = c.wrote;
        used = c.used;
        known = (c.known.0 ++ s ∷ [], ap (λ l. l ++ s ∷ []) c.known.1 ∙ append_assoc b.done (b.ahead ++ c.known.0) (s ∷ []) ∙ ap (λ l. b.done ++ l) (append_assoc b.ahead c.known.0 (s ∷ [])));
        room = omega arith;
        unique = rw (slots_one f.sent s) (unique_all b c);
        good = all_append IsSent f.sent (s ∷ []) c.good (ok.good, tt);
      }

  pub tx_slots_pushed : (win : Option ℕ) (b : Back) (x : Place → ℕ) → TxCounts w start f b → AllOf (Stood w start x) (send_writes w (add32 start (tx_sent f)) s.bytes (length s.ids) 0 s.ids) →
      TxSlots w start x (slots f.sent) f.taken (tx_answered b) (tx_answered b + b.wrote) (tx_answered b + b.used) →
      TxSlots w start x (slots (pushed f s win).sent) f.taken (tx_answered b) (tx_answered b + b.wrote) (tx_answered b + b.used)
  tx_slots_pushed win b x c st t =
      let l = slots f.sent in let new = pieces_in s in
      let z = news in
      let span = tx_span w start f b c in let high = span.high in let wrote = c.wrote in
      let stands : (k : ℕ) → k < length new → PieceStands w start x (piece new k) (length l + k) =
      λ k q. (let e : length l + 0 + k ≡ length l + k = omega arith in subst (λ n. PieceStands w start x (piece new k) n) e (send_stands w start x (tx_sent f) s.bytes (length s.ids) 0 s.ids st k (omega arith))) in
      subst (λ m. TxSlots w start x m f.taken (tx_answered b) (tx_answered b + b.wrote) (tx_answered b + b.used)) (sym (slots_one f.sent s))
      (record {
        requests = (λ n j p q r. each l new (λ m y. x (tx_at w start m j) ≡ get_or (Rattle.honest_pair.specs.Invariant.Inv.tx_words w start y) j 0) (tx_answered b + b.used) (λ m u v. t.requests m j u v r) (λ k v. (stands k v).slot j r) n p q);
        grants = each l new (λ m y. Rattle.honest_pair.specs.Invariant.Inv.IsLent w start x (tx_buffer w start y.id) 5) (tx_answered b) (λ m u v. t.grants m u v) (λ k v. (stands k v).grant);
        pages = (λ n j p q. each l new (λ m y. j < Rattle.xen_front.specs.Slots.piece_words (length y.bytes) y.k → x (page_word (tx_buffer w start y.id).frame j) ≡ Rattle.xen_front.specs.Slots.word_at y.bytes (4096 * y.k + 4 * j)) (tx_answered b)
            (λ m u v. t.pages m j u v) (λ k v. (stands k v).page j) n p q);
        responses = (λ n p q. t.responses n p q ∙ ap (λ y. y.id) (sym (older l new n (omega arith))));
      })
