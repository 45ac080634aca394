-- Rows in order.
use Rattle.std.proofs.Common.{◌≡◌, ℕ, ◌+◌, ◌-◌, ◌*◌, ◌<◌, ◌≤◌, ◌⊎◌, inl, inr, List, length, slice_index, arith, sym, ◌∙◌, subst}
use Rattle.bpf_note.specs.Keys.{size, width, bits_of, data_of}
use Rattle.bpf_lists.specs.Keys.{count, value}
use Rattle.bpf_lists.specs.Refusals.{IsRow}
use Rattle.bpf_lists.specs.Order.{Ordered, IsOrdered, IsSpan, at, rank, Covers, Reaches, AreParents}
use Rattle.bpf_lists.proofs.RowLemmas.{few_bits}
use Rattle.bpf_lists.proofs.KeyLemmas.{row_long, first_is}
use Rattle.bpf_lists.proofs.NestLemmas.{covers_between, covering_below}

pub place_counts : (o : Ordered) → IsOrdered o → (place : ℕ) → place < length o.rows → slice_index o.rows place < count o.kind o.keys
place_counts o is place h = subst (λ n. slice_index o.rows place < n) is.long (is.below place h)

pub place_good : (o : Ordered) → IsOrdered o → (place : ℕ) → place < length o.rows → IsRow o.kind o.keys (slice_index o.rows place)
place_good o is place h = is.good.rows (slice_index o.rows place) (place_counts o is place h)

pub place_bits : (o : Ordered) → IsOrdered o → (place : ℕ) → place < length o.rows → bits_of o.kind (at o place) ≤ 512
place_bits o is place h = few_bits o.kind o.keys (slice_index o.rows place) is.good (place_counts o is place h)

pub equal_or_less : (i j : ℕ) → i ≤ j → (i ≡ j) ⊎ (i < j)
equal_or_less i j h = grind arith

pub ranks_rise : (o : Ordered) → IsOrdered o → (i j : ℕ) → i ≤ j → j < length o.rows → rank o.kind (at o i) ≤ rank o.kind (at o j)
ranks_rise o is i j h j_in = elim (equal_or_less i j h) [
  | inl same ↦ subst (λ n. rank o.kind (at o i) ≤ rank o.kind (at o n)) same (omega arith)
  | inr less ↦ (let r = is.rising i j less j_in in omega arith)
]

pub values_rise : (o : Ordered) → IsOrdered o → (i j : ℕ) → i ≤ j → j < length o.rows →
    value (data_of o.kind (at o i)) ≤ value (data_of o.kind (at o j))
values_rise o is i j h j_in =
    let r = ranks_rise o is i j h j_in in
    let b = place_bits o is i (omega arith) in
    let e = place_bits o is j j_in in
    omega arith

-- the search: what is above goes on being so, and what is not above was not before
pub above_rises : (o : Ordered) → IsOrdered o → (wanted m i : ℕ) → wanted < value (data_of o.kind (at o m)) → m ≤ i → i < length o.rows →
    wanted < value (data_of o.kind (at o i))
above_rises o is wanted m i h le i_in = let r = values_rise o is m i le i_in in omega arith

pub below_falls : (o : Ordered) → IsOrdered o → (wanted m i : ℕ) → value (data_of o.kind (at o m)) ≤ wanted → i ≤ m → m < length o.rows →
    value (data_of o.kind (at o i)) ≤ wanted
below_falls o is wanted m i h le m_in = let r = values_rise o is i m le m_in in omega arith

-- a span whose row at a place is above the number ends there, and begins above it if it isn't
pub span_below : (o : Ordered) → IsOrdered o → (wanted low high place : ℕ) → IsSpan o wanted low high → low ≤ place → place < high →
    wanted < value (data_of o.kind (at o place)) → IsSpan o wanted low place
span_below o is wanted low high place h from to higher = record {
  in_order = from;
  most = omega (arith, to, h.most);
  below = h.below;
  above = λ i le i_in. above_rises o is wanted place i higher le i_in;
}

pub span_above : (o : Ordered) → IsOrdered o → (wanted low high place : ℕ) → IsSpan o wanted low high → low ≤ place → place < high →
    value (data_of o.kind (at o place)) ≤ wanted → IsSpan o wanted (place + 1) high
span_above o is wanted low high place h from to lower = record {
  in_order = omega (arith, to);
  most = h.most;
  below = λ i lt. below_falls o is wanted place i lower (omega (arith, lt)) (omega (arith, to, h.most));
  above = h.above;
}

pub span_of_all : (o : Ordered) (wanted : ℕ) → IsSpan o wanted 0 (length o.rows)
span_of_all o wanted = record {
  in_order = omega arith;
  most = omega arith;
  below = λ i none. absurd (omega (arith, none));
  above = λ i le i_in. absurd (omega (arith, le, i_in));
}

-- one step of the climb: the row below `above` does not cover the key, so what covers the key covers that row
pub climb_step : (o : Ordered) (parents key : List ℕ) (from above : ℕ) → AreParents o parents → 0 < above → above ≤ from → from ≤ length parents →
    Reaches o from key above → (Covers o.kind (at o (above - 1)) key → ⊥) → Reaches o from key (slice_index parents (above - 1))
climb_step o parents key from above nested some most within reaches not j j_in covers =
    let now = reaches j j_in covers in
    let other : j < above - 1 = elim (equal_or_less j (above - 1) (omega (arith, now.0))) as (λ c. j < above - 1) [
      | inl same ↦ absurd (not (subst (λ n. Covers o.kind (at o n) key) same covers))
      | inr less ↦ less
    ] in
    nested.reach (above - 1) (omega arith) j other now.1

pub at_long : (o : Ordered) → IsOrdered o → (place : ℕ) → place < length o.rows → length (at o place) ≡ size o.kind
at_long o is place h = row_long o.kind o.keys (slice_index o.rows place) (place_counts o is place h)

-- a row before another that covers a key which is not below that other covers that other
pub covered_between : (o : Ordered) → IsOrdered o → (j p : ℕ) (key : List ℕ) → j ≤ p → p < length o.rows → length key ≡ size o.kind →
    value (data_of o.kind (at o p)) ≤ value (data_of o.kind key) → Covers o.kind (at o j) key → Covers o.kind (at o j) (at o p)
covered_between o is j p key le p_in long high covers =
    let j_in : j < length o.rows = omega arith in
    let j_good = place_good o is j j_in in
    let p_good = place_good o is p p_in in
    let wide = is.good.few.supported.1 in
    let bits = bits_of o.kind (at o j) in
    let j_first = first_is o.kind bits (at o j) (at_long o is j j_in) in
    let p_first = first_is o.kind bits (at o p) (at_long o is p p_in) in
    let key_first = first_is o.kind bits key long in
    let both = covers_between (8 * width o.kind) (bits_of o.kind (at o j)) (bits_of o.kind (at o p)) (value (data_of o.kind (at o j)))
    (value (data_of o.kind (at o p))) (value (data_of o.kind key)) j_good.within p_good.within (omega arith) j_good.plain p_good.plain
    (ranks_rise o is j p le p_in) high (sym j_first ∙ covers.1 ∙ key_first) in
    (both.0, j_first ∙ both.1 ∙ sym p_first)

-- what covers a key is not above it
pub cover_not_above : (o : Ordered) → IsOrdered o → (j : ℕ) (key : List ℕ) → j < length o.rows → length key ≡ size o.kind →
    Covers o.kind (at o j) key → value (data_of o.kind (at o j)) ≤ value (data_of o.kind key)
cover_not_above o is j key j_in long covers =
    let bits = bits_of o.kind (at o j) in
    let good = place_good o is j j_in in
    covering_below (8 * width o.kind - bits) (value (data_of o.kind (at o j))) (value (data_of o.kind key)) good.plain
    (sym (first_is o.kind bits (at o j) (at_long o is j j_in)) ∙ covers.1 ∙ first_is o.kind bits key long)

-- where a climb starts
pub climb_start : (o : Ordered) → IsOrdered o → (from : ℕ) (key : List ℕ) → from ≤ length o.rows → length key ≡ size o.kind →
    ((i : ℕ) → i < from → value (data_of o.kind (at o i)) ≤ value (data_of o.kind key)) → Reaches o from key from
climb_start o is from key within long low j j_in covers =
    (j_in, covered_between o is j (from - 1) key (omega arith) (omega arith) long (low (from - 1) (omega arith)) covers)

-- the same for the row at a place
pub place_start : (o : Ordered) → IsOrdered o → (place : ℕ) → place < length o.rows → Reaches o place (at o place) place
place_start o is place h =
    climb_start o is place (at o place) (omega arith) (at_long o is place h) (λ i less. values_rise o is i place (omega arith) h)
