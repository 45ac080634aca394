-- A sent packet's chain has its pieces as fragments, and their bytes join to the packet.
use Rattle.std.proofs.Common.{◌≡◌, ℕ, zero, suc, ◌+◌, ◌-◌, ◌*◌, ◌<◌, ◌≤◌, Bool, true, false, List, [], ◌∷◌, ◌++◌, length, map, take, append_assoc, Result, Ok, Err, refl, sym, ◌∙◌, ap, arith}
use Rattle.std.specs.Prelude.{get_or, nat_lt, nat_le, sum_by, if◌then◌else◌, ◌&&◌}
use Rattle.std.specs.List.{list_all}
use Rattle.std.specs.Int.{w32, to_le_bytes}
use Rattle.std.proofs.Math.Seq.{take-suc}
use Rattle.std.proofs.lemmas.Nat.{le_bytes_4}
use Rattle.std.proofs.lemmas.List.Sums.{sum_by-cons}
use Rattle.std.proofs.lemmas.Bool.Decides.{nat_tests}
use Rattle.xen_buffers.specs.Grants.{buffer}
use Rattle.xen_buffers.specs.declared.wiring.FrontWiring.{FrontWiring}
use Rattle.xen_front.specs.Slots.{piece_size, told_size, word_at}
use Rattle.xen_netif.proofs.SegmentLemmas.{plain_offered}
use Rattle.xen_netif.specs.Segments.{offered_fragments}
use Rattle.xen_netif.specs.declared.segments.Offers.{Offers}
use Rattle.xen_netif.specs.Fragments.{fragment_of, is_in_page, later_fragment, slot_size, split}
use Rattle.xen_netif.specs.Slots.{tx_req_of}
use Rattle.xen_netif.specs.declared.fault.SizeFault.{SizeFault}
use Rattle.xen_netif.specs.declared.fault.SizeFault.TheVariants.{ShortPacket, LaterSizes, PastPage, ExtraInfo}
use Rattle.xen_netif.specs.declared.fragment.Fragment.{Fragment}
use Rattle.honest_pair.specs.Invariant.Ghosts.{AllOf, Piece, pieces_from}
use Rattle.honest_pair.specs.Invariant.Inv.{tx_words}
use Rattle.honest_pair.proofs.Invariant.Lists.{nil_right}
use Rattle.honest_pair.proofs.Invariant.BackChains.{no_extra}

pub piece_size_of : (len k : ℕ) → piece_size len k + (len - 4096 * (k + 1)) ≡ len - 4096 * k
piece_size_of len k = by (nat_le (len - 4096 * k) 4096) refl
  where
    by : (b : Bool) → nat_le (len - 4096 * k) 4096 ≡ b → (if b then len - 4096 * k else 4096) + (len - 4096 * (k + 1)) ≡ len - 4096 * k
    by true e = let le : len - 4096 * k ≤ 4096 = grind (arith, nat_tests) in omega (arith, le)
    by false e = let lt : 4096 < len - 4096 * k = grind (arith, nat_tests) in omega (arith, lt)

pub piece_size_most : (len k : ℕ) → piece_size len k ≤ 4096
piece_size_most len k = by (nat_le (len - 4096 * k) 4096) refl
  where
    by : (b : Bool) → nat_le (len - 4096 * k) 4096 ≡ b → (if b then len - 4096 * k else 4096) ≤ 4096
    by true e = grind (arith, nat_tests)
    by false e = omega arith

told_later : (len k : ℕ) → 0 < k → told_size len k ≡ piece_size len k
told_later len zero h = absurd (omega (arith, h))
told_later len (suc k) h = refl

-- the bytes of a list from a place on
abbrev pub bytes_at : List ℕ → ℕ → ℕ → List ℕ
bytes_at p a zero = []
bytes_at p a (suc n) = get_or p a 0 ∷ bytes_at p (a + 1) n

pub grown : (p : List ℕ) (n a : ℕ) → a + n ≤ length p → take a p ++ bytes_at p a n ≡ take (a + n) p
grown p zero a h = let e : a ≡ a + 0 = omega arith in nil_right (take a p) ∙ ap (λ i. take i p) e
grown p (suc n) a h =
    let e : suc a ≡ a + 1 = omega arith in
    let f : a + 1 + n ≡ a + suc n = omega arith in
    sym (append_assoc (take a p) (get_or p a 0 ∷ []) (bytes_at p (a + 1) n))
    ∙ ap (λ l. l ++ bytes_at p (a + 1) n) (sym (take-suc p a 0 (omega (arith, h))))
    ∙ ap (λ i. take i p ++ bytes_at p (a + 1) n) e
    ∙ grown p n (a + 1) (omega (arith, h))
    ∙ ap (λ i. take i p) f

pub taken_at : (p : List ℕ) (n m a : ℕ) → m ≤ n → take m (bytes_at p a n) ≡ bytes_at p a m
taken_at p n zero a h = refl
taken_at p zero (suc m) a h = absurd (omega (arith, h))
taken_at p (suc n) (suc m) a h = ap (λ l. get_or p a 0 ∷ l) (taken_at p n m (a + 1) (omega (arith, h)))

pub word_bytes : (p : List ℕ) (a : ℕ) → ((i : ℕ) → get_or p i 0 < 256) → to_le_bytes w32 (word_at p a) ≡ bytes_at p a 4
word_bytes p a h =
    let e : get_or p (a + 1 + 1) 0 ≡ get_or p (a + 2) 0 = ap (λ i. get_or p i 0) (omega arith) in
    let f : get_or p (a + 1 + 1 + 1) 0 ≡ get_or p (a + 3) 0 = ap (λ i. get_or p i 0) (omega arith) in
    le_bytes_4 (bytes_at p a 4) (word_at p a) refl by (omega (arith, e, f))
  where
    by : (n : ℕ) → get_or (bytes_at p a 4) n 0 < 256
    by zero = h a
    by (suc zero) = h (a + 1)
    by (suc (suc zero)) = h (a + 1 + 1)
    by (suc (suc (suc zero))) = h (a + 1 + 1 + 1)
    by (suc (suc (suc (suc n)))) = omega arith

module _ (w : FrontWiring) (start : ℕ) where
  -- a piece as a fragment
  abbrev pub part : Piece → Fragment
  part s = record { gref = (buffer w.tx.now s.id).gref; offset = 0; size = piece_size (length s.bytes) s.k }

  slot_size_of : (s : Piece) → s.id < 256 → slot_size (tx_words w start s) ≡ told_size (length s.bytes) s.k
  slot_size_of s h = omega (arith, h)

  slot_offset_of : (s : Piece) → (tx_req_of (tx_words w start s)).offset ≡ 0
  slot_offset_of s = omega arith

  slot_part : (s : Piece) (n : ℕ) → n ≡ piece_size (length s.bytes) s.k → fragment_of (tx_words w start s) n ≡ part s
  slot_part s n e =
      ap (λ o. record { gref = (buffer w.tx.now s.id).gref; offset = o; size = n }) (slot_offset_of s)
      ∙ ap (λ z. record { gref = (buffer w.tx.now s.id).gref; offset = 0; size = z }) e

  later_parts : (p : List ℕ) (n k : ℕ) (ids : List ℕ) → 0 < k → AllOf (λ i. i < 256) ids →
      map later_fragment (map (tx_words w start) (pieces_from p n k ids)) ≡ map part (pieces_from p n k ids)
  later_parts p n k [] h a = refl
  later_parts p n k (id ∷ ids) h a =
      let x : Piece = record { bytes = p; n = n; k = k; id = id } in
      ap (λ f. f ∷ map later_fragment (map (tx_words w start) (pieces_from p n (k + 1) ids))) (slot_part x (slot_size (tx_words w start x)) (slot_size_of x a.0 ∙ told_later (length p) k h))
      ∙ ap (λ l. part x ∷ l) (later_parts p n (k + 1) ids (omega arith) a.1)

  later_sum : (p : List ℕ) (n k : ℕ) (ids : List ℕ) → 0 < k → AllOf (λ i. i < 256) ids → length p ≤ 4096 * (k + length ids) →
      sum_by slot_size (map (tx_words w start) (pieces_from p n k ids)) ≡ length p - 4096 * k
  later_sum p n k [] h a q = omega (arith, q)
  later_sum p n k (id ∷ ids) h a q =
      let x : Piece = record { bytes = p; n = n; k = k; id = id } in
      sum_by-cons slot_size (tx_words w start x) (map (tx_words w start) (pieces_from p n (k + 1) ids))
      ∙ ap (λ z. z + sum_by slot_size (map (tx_words w start) (pieces_from p n (k + 1) ids))) (slot_size_of x a.0 ∙ told_later (length p) k h)
      ∙ ap (λ z. piece_size (length p) k + z) (later_sum p n (k + 1) ids (omega arith) a.1 (omega (arith, q)))
      ∙ piece_size_of (length p) k

  in_pages : (p : List ℕ) (n k : ℕ) (ids : List ℕ) → list_all is_in_page (map part (pieces_from p n k ids)) ≡ true
  in_pages p n k [] = refl
  in_pages p n k (id ∷ ids) = ap (λ b. b && list_all is_in_page (map part (pieces_from p n (k + 1) ids))) (within (piece_size (length p) k) (piece_size_most (length p) k)) ∙ in_pages p n (k + 1) ids
    where
      within : (z : ℕ) → z ≤ 4096 → nat_le (0 + z) 4096 ≡ true
      within z h = grind (arith, nat_tests)

  -- no refusal: the fragments of a sent packet's chain are its pieces
  pub fragments_sent : (offers : Offers) (p : List ℕ) (n id : ℕ) (ids : List ℕ) → 14 ≤ length p → id < 256 → AllOf (λ i. i < 256) ids → length p ≤ 4096 * (1 + length ids) →
      offered_fragments offers (map (tx_words w start) (pieces_from p n 0 (id ∷ ids))) ≡ Ok (map part (pieces_from p n 0 (id ∷ ids)))
  fragments_sent offers p n id ids h a b q =
      let x : Piece = record { bytes = p; n = n; k = 0; id = id } in
      let first = tx_words w start x in
      let later = map (tx_words w start) (pieces_from p n 1 ids) in
      let size : slot_size first ≡ length p = slot_size_of x a in
      let sum : sum_by slot_size later ≡ length p - 4096 * 1 = later_sum p n 1 ids (omega arith) b q in
      let parts : split first later ≡ map part (pieces_from p n 0 (id ∷ ids)) =
      ap (λ f. f ∷ map later_fragment later) (slot_part x (slot_size first - sum_by slot_size later) (omega (arith, size, sum, piece_size_of (length p) 0)))
      ∙ ap (λ l. part x ∷ l) (later_parts p n 1 ids (omega arith) b) in
      let rest : List Fragment → Result (List Fragment) SizeFault = λ l. if list_all is_in_page l then Ok l else Err PastPage in
      plain_offered offers first later (no_extra w start x)
      ∙ ap (λ t. if t then Err ExtraInfo else (if nat_lt (slot_size first) 14 then Err ShortPacket else (if nat_lt (slot_size first) (sum_by slot_size later) then Err LaterSizes else rest (split first later)))) (no_extra w start x)
      ∙ ap (λ t. if t then Err ShortPacket else (if nat_lt (slot_size first) (sum_by slot_size later) then Err LaterSizes else rest (split first later))) (enough (slot_size first) (omega (arith, size, h)))
      ∙ ap (λ t. if t then Err LaterSizes else rest (split first later)) (fits (slot_size first) (sum_by slot_size later) (omega (arith, size, sum)))
      ∙ ap rest parts
      ∙ ap (λ t. if t then Ok (map part (pieces_from p n 0 (id ∷ ids))) else Err PastPage) (in_pages p n 0 (id ∷ ids))
    where
      enough : (z : ℕ) → 14 ≤ z → nat_lt z 14 ≡ false
      enough z h = grind (arith, nat_tests)

      fits : (z y : ℕ) → y ≤ z → nat_lt z y ≡ false
      fits z y h = grind (arith, nat_tests)
