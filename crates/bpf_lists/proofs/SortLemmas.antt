-- The order of rows, from what a sort gives.
use Rattle.std.proofs.Common.{◌≡◌, ◌≢◌, ℕ, zero, suc, ◌+◌, ◌*◌, ◌^◌, ◌<◌, ◌≤◌, ◌⊎◌, inl, inr, List, [], length, slice_index, min, arith, sym, zero-add, add-zero, add-one, ◌++◌, ◌∷◌, ◌∙◌, ap, subst}
use Rattle.std.specs.List.{range_with_len, Contains, All, AllPairs}
use Rattle.std.specs.List.Sorted.{IsPermutation, IsNonDecreasingBy}
use Rattle.std.specs.Prelude.{nat_eq}
use Rattle.std.proofs.lemmas.List.Sorted.{length_permutation, All-permutation, Contains-permutation}
use Rattle.std.proofs.lemmas.List.FromFn.{length-range_with_len, get_or-range_with_len}
use Rattle.std.proofs.lemmas.List.{length-append, get_or_default, get_or_push, get_or_append_left}
use Rattle.std.proofs.lemmas.Map.Made.{AllPairs-from_IsDistinct, IsDistinct-from_AllPairs}
use Rattle.std.proofs.lemmas.Map.Keys.{IsDistinct-IsPermutation}
use Rattle.std.proofs.lemmas.Bool.Decides.{Decides-eqb}
use Rattle.std.proofs.lemmas.Cmp.{nat_eq_equiv}
use Rattle.bpf_note.specs.declared.key.KeyKind.{KeyKind}
use Rattle.bpf_note.specs.Keys.{size, bits_of, data_of}
use Rattle.bpf_lists.specs.Keys.{row, count, value}
use Rattle.bpf_lists.specs.Refusals.{AreRows, AreFew, IsSame, AreListed}
use Rattle.bpf_lists.specs.Order.{rank, seat, spot, at, AreSorted, Differ, HasPlace, Ordered, IsOrdered, Reaches, AreParents}
use Rattle.bpf_lists.proofs.RowLemmas.{few_bits}
use Rattle.bpf_lists.proofs.KeyLemmas.{row_long, row_bytes, data_width, data_are_bytes}
use Rattle.bpf_lists.proofs.ValueLemmas.{AreBytes, value_injective}
use Rattle.bpf_lists.proofs.OrderLemmas.{equal_or_less}

range_apart : (n : ℕ) → AllPairs (λ (x y : ℕ). x ≢ y) (range_with_len 0 n)
range_apart n i j d less j_in same =
    let long = length-range_with_len 0 n in
    let a = get_or-range_with_len 0 n i d (omega arith) in
    let b = get_or-range_with_len 0 n j d (omega arith) in
    let both : i ≡ j = omega (arith, same) in
    omega arith

pub apart : (n : ℕ) (rows : List ℕ) → IsPermutation (range_with_len 0 n) rows → AllPairs (λ (x y : ℕ). x ≢ y) rows
apart n rows p =
    AllPairs-from_IsDistinct Decides-eqb rows
    (IsDistinct-IsPermutation nat_eq nat_eq_equiv.symm (range_with_len 0 n) rows p (IsDistinct-from_AllPairs Decides-eqb (range_with_len 0 n) (range_apart n)))

seat_of : (kind : KeyKind) (keys : List ℕ) (last r : ℕ) → r ≤ last → spot kind keys last r ≡ seat kind keys r
seat_of kind keys last r h = let m : min r last ≡ r = omega arith in ap (λ (n : ℕ). rank kind (row kind keys n) * 2 ^ 32 + r) m

strict : (a b r s : ℕ) → r < 2 ^ 32 → s < 2 ^ 32 → r ≢ s → a * 2 ^ 32 + r ≤ b * 2 ^ 32 + s → a * 2 ^ 32 + r < b * 2 ^ 32 + s
strict a b r s r_in s_in differ h = grind arith

range_below : (n : ℕ) → All (λ (r : ℕ). r < n) (range_with_len 0 n)
range_below n k d h =
    let long = length-range_with_len 0 n in
    let is = get_or-range_with_len 0 n k d (omega arith) in
    omega arith

range_has : (n r : ℕ) → r < n → Contains (range_with_len 0 n) r
range_has n r h =
    let long = length-range_with_len 0 n in
    (r, omega arith, get_or-range_with_len 0 n r r h ∙ zero-add r)

placed : (rows : List ℕ) (r : ℕ) → Contains rows r → HasPlace rows r
placed rows r has = record { place = has.0; within = has.1; is = get_or_default rows has.0 0 r has.1 ∙ has.2 }

pub rows_sorted : (kind : KeyKind) (keys : List ℕ) (last : ℕ) (rows : List ℕ) → AreFew kind keys → count kind keys ≡ suc last →
    IsPermutation (range_with_len 0 (suc last)) rows → IsNonDecreasingBy (spot kind keys last) rows → AreSorted kind keys rows
rows_sorted kind keys last rows few counted p rises =
    let long : length rows ≡ suc last = length_permutation (range_with_len 0 (suc last)) rows p ∙ length-range_with_len 0 (suc last) in
    let most : suc last ≤ 65536 = subst (λ n. n ≤ 65536) counted few.few in
    let each : All (λ (r : ℕ). r < suc last) rows = All-permutation (λ (r : ℕ). r < suc last) (range_with_len 0 (suc last)) rows p (range_below (suc last)) in
    let differ = apart (suc last) rows p in
    record {
      long = long ∙ sym counted;
      below = λ place h. subst (λ n. slice_index rows place < n) (sym counted) (each place 0 h);
      every = λ r h. placed rows r (Contains-permutation (range_with_len 0 (suc last)) rows r p (range_has (suc last) r (omega arith)));
      rising = λ i j less j_in.
          let i_in : i < length rows = omega arith in
          let low = each i 0 i_in in
          let high = each j 0 j_in in
          let near = rises i j 0 (omega arith) j_in in
          let i_is = seat_of kind keys last (slice_index rows i) (omega arith) in
          let j_is = seat_of kind keys last (slice_index rows j) (omega arith) in
          strict (rank kind (row kind keys (slice_index rows i))) (rank kind (row kind keys (slice_index rows j))) (slice_index rows i) (slice_index rows j)
          (omega arith) (omega arith) (differ i j 0 less j_in) (omega arith);
    }

-- no rows are in order
pub none_sorted : (kind : KeyKind) (keys : List ℕ) → count kind keys ≡ 0 → AreSorted kind keys []
none_sorted kind keys none = record {
  long = sym none;
  below = λ place h. absurd (omega arith);
  every = λ r h. absurd (omega arith);
  rising = λ i j less j_in. absurd (omega arith);
}

range_more : (a n : ℕ) → range_with_len a n ++ (a + n) ∷ [] ≡ range_with_len a (suc n)
range_more a zero = ap (λ (m : ℕ). m ∷ []) (add-zero a)
range_more a (suc n) =
    let e : a + suc n ≡ (a + 1) + n = omega arith in
    ap (λ (xs : List ℕ). a ∷ xs) (ap (λ (m : ℕ). range_with_len (a + 1) n ++ m ∷ []) e ∙ range_more (a + 1) n)

pub range_push : (n : ℕ) → range_with_len 0 n ++ n ∷ [] ≡ range_with_len 0 (n + 1)
range_push n = ap (λ (m : ℕ). range_with_len 0 n ++ m ∷ []) (sym (zero-add n)) ∙ range_more 0 n ∙ ap (range_with_len 0) (sym (add-one n))

-- the rank of a row decides which of two comes first
rank_rises : (a b r s : ℕ) → r < 2 ^ 32 → s < 2 ^ 32 → a * 2 ^ 32 + r < b * 2 ^ 32 + s → a ≤ b
rank_rises a b r s r_in s_in h = grind arith

few_rows : (kind : KeyKind) (keys : List ℕ) (r : ℕ) → AreRows kind keys → r < count kind keys → r < 2 ^ 32
few_rows kind keys r good h = let most = good.few.few in omega arith

same_rank : (kind : KeyKind) (a b : List ℕ) → IsSame kind a b → rank kind a ≡ rank kind b
same_rank kind a b same = λ i. value (same.bytes i) * 1024 + same.bits i

-- rows in order have ranks in order
ranks_sorted : (kind : KeyKind) (keys rows : List ℕ) → AreRows kind keys → AreSorted kind keys rows → (i j : ℕ) → i < j → j < length rows →
    rank kind (row kind keys (slice_index rows i)) ≤ rank kind (row kind keys (slice_index rows j))
ranks_sorted kind keys rows good is i j less j_in =
    let i_in : i < length rows = omega arith in
    rank_rises _ _ (slice_index rows i) (slice_index rows j) (few_rows kind keys _ good (is.below i i_in)) (few_rows kind keys _ good (is.below j j_in))
    (is.rising i j less j_in)

ranks_reach : (kind : KeyKind) (keys rows : List ℕ) → AreRows kind keys → AreSorted kind keys rows → (i j : ℕ) → i ≤ j → j < length rows →
    rank kind (row kind keys (slice_index rows i)) ≤ rank kind (row kind keys (slice_index rows j))
ranks_reach kind keys rows good is i j le j_in = elim (equal_or_less i j le) [
  | inl same ↦ subst (λ n. rank kind (row kind keys (slice_index rows i)) ≤ rank kind (row kind keys (slice_index rows n))) same (omega arith)
  | inr less ↦ ranks_sorted kind keys rows good is i j less j_in
]

strictly : (a b d : ℕ) → a ≤ b → b ≤ d → (a ≡ b → ⊥) → a < d
strictly a b d low high differ = grind arith

-- of two rows with one key, the one that stands first has the lower number
pub lower_first : (kind : KeyKind) (keys rows : List ℕ) → AreSorted kind keys rows → (i j : ℕ) → i < j → j < length rows →
    IsSame kind (row kind keys (slice_index rows i)) (row kind keys (slice_index rows j)) → slice_index rows i < slice_index rows j
lower_first kind keys rows is i j less j_in same =
    let r = same_rank kind _ _ same in
    let s = is.rising i j less j_in in
    omega arith

-- rows with one rank have one key
pub same_from_rank : (kind : KeyKind) (a b : List ℕ) → length a ≡ size kind → length b ≡ size kind → AreBytes a → AreBytes b →
    bits_of kind a ≤ 512 → bits_of kind b ≤ 512 → rank kind a ≡ rank kind b → IsSame kind a b
same_from_rank kind a b a_long b_long f g a_few b_few same =
    let bits : bits_of kind a ≡ bits_of kind b = omega arith in
    let number : value (data_of kind a) ≡ value (data_of kind b) = omega arith in
    record {
      bits = bits;
      bytes = value_injective (data_of kind a) (data_of kind b) (data_width kind a a_long ∙ sym (data_width kind b b_long))
          (data_are_bytes kind a f) (data_are_bytes kind b g) number;
    }

-- rows in order of which no neighbours have one key
ranks_strict : (kind : KeyKind) (keys rows : List ℕ) → AreBytes keys → AreRows kind keys → AreSorted kind keys rows →
    Differ kind keys rows →
    (i j : ℕ) → i < j → j < length rows → rank kind (row kind keys (slice_index rows i)) < rank kind (row kind keys (slice_index rows j))
ranks_strict kind keys rows bytes good is distinct i j less j_in =
    let next : i + 1 < length rows = omega arith in
    let i_in : i < length rows = omega arith in
    let a : List ℕ = row kind keys (slice_index rows i) in
    let b : List ℕ = row kind keys (slice_index rows (i + 1)) in
    let near = ranks_sorted kind keys rows good is i (i + 1) (omega arith) next in
    let far = ranks_reach kind keys rows good is (i + 1) j (omega arith) j_in in
    let i_count = is.below i i_in in
    let n_count = is.below (i + 1) next in
    let differ : rank kind a ≡ rank kind b → ⊥ = λ same. distinct i next
    (same_from_rank kind a b (row_long kind keys _ i_count) (row_long kind keys _ n_count) (row_bytes kind keys _ bytes) (row_bytes kind keys _ bytes)
    (few_bits kind keys _ good i_count) (few_bits kind keys _ good n_count) same) in
    strictly (rank kind a) (rank kind b) (rank kind (row kind keys (slice_index rows j))) near far differ

pub ordered_from : (kind : KeyKind) (keys rows : List ℕ) → AreBytes keys → AreRows kind keys → AreSorted kind keys rows →
    Differ kind keys rows →
    IsOrdered record { kind = kind; keys = keys; rows = rows }
ordered_from kind keys rows bytes good is distinct = record {
  bytes = bytes;
  good = good;
  long = is.long;
  below = λ place h. subst (λ n. slice_index rows place < n) (sym is.long) (is.below place h);
  every = λ r h. is.every r (subst (λ n. r < n) is.long h);
  rising = λ i j less j_in. ranks_strict kind keys rows bytes good is distinct i j less j_in;
}

three_ways : (a b : ℕ) → (a < b) ⊎ ((a ≡ b) ⊎ (b < a))
three_ways a b = grind arith

-- two places with one rank are one
place_of_rank : (o : Ordered) → IsOrdered o → (i j : ℕ) → i < length o.rows → j < length o.rows → rank o.kind (at o i) ≡ rank o.kind (at o j) → i ≡ j
place_of_rank o is i j i_in j_in same = elim (three_ways i j) [
  | inl less ↦ (let r = is.rising i j less j_in in absurd (omega arith))
  | inr others ↦ elim others [
    | inl equal ↦ equal
    | inr more ↦ (let r = is.rising j i more i_in in absurd (omega arith))
  ]
]

pub listed_from : (o : Ordered) → IsOrdered o → AreListed o.kind o.keys
listed_from o is = record {
  rows = is.good;
  distinct = λ r s less s_in same.
      let s_row : s < length o.rows = subst (λ n. s < n) (sym is.long) s_in in
      let a = is.every r (omega arith) in
      let b = is.every s s_row in
      let ranks : rank o.kind (at o a.place) ≡ rank o.kind (at o b.place) =
      ap (λ (n : ℕ). rank o.kind (row o.kind o.keys n)) a.is ∙ same_rank o.kind (row o.kind o.keys r) (row o.kind o.keys s) same
      ∙ sym (ap (λ (n : ℕ). rank o.kind (row o.kind o.keys n)) b.is) in
      let places = place_of_rank o is a.place b.place a.within b.within ranks in
      let both : r ≡ s = sym a.is ∙ ap (λ (n : ℕ). slice_index o.rows n) places ∙ b.is in
      omega arith;
}

pub parents_none : (o : Ordered) → AreParents o []
parents_none o = record { below = λ place h. absurd (omega arith); reach = λ place h. absurd (omega arith) }

last_or_before : (p n : ℕ) → p < n + 1 → (p < n) ⊎ (p ≡ n)
last_or_before p n h = grind arith

pub parents_more : (o : Ordered) (ps : List ℕ) (place q : ℕ) → AreParents o ps → length ps ≡ place → q ≤ place → Reaches o place (at o place) q →
    AreParents o (ps ++ q ∷ [])
parents_more o ps place q are long low reaches = record {
  below = λ p h. elim (last_or_before p (length ps) (omega (arith, length-append ps (q ∷ [])))) [
    | inl less ↦ subst (λ n. n ≤ p) (sym (get_or_append_left ps (q ∷ []) 0 p less)) (are.below p less)
    | inr last ↦ subst (λ n. n ≤ p) (sym (get_or_push ps q 0 p (sym last))) (omega arith)
  ];
  reach = λ p h. elim (last_or_before p (length ps) (omega (arith, length-append ps (q ∷ [])))) [
    | inl less ↦ subst (λ n. Reaches o p (at o p) n) (sym (get_or_append_left ps (q ∷ []) 0 p less)) (are.reach p less)
    | inr last ↦ subst (λ n. Reaches o p (at o p) n) (sym (get_or_push ps q 0 p (sym last)))
        (subst (λ n. Reaches o n (at o n) q) (sym (last ∙ long)) reaches)
  ];
}
