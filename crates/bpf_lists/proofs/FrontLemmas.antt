-- Rows whose data begin with different numbers: these decide.
use Rattle.std.proofs.Common.{◌≡◌, ◌≢◌, ℕ, ◌+◌, ◌*◌, ◌^◌, ◌<◌, ◌≤◌, inl, inr, List, [], ◌∷◌, ◌++◌, length, slice_index, min, arith, sym, ◌∙◌, ap}
use Rattle.std.specs.Ordering.{nat_cmp}
use Rattle.std.proofs.lemmas.List.{get_or_push, get_or_append_left}
use Rattle.bpf_note.specs.declared.key.KeyKind.{KeyKind}
use Rattle.bpf_note.specs.Keys.{data_of, bits_of}
use Rattle.bpf_lists.specs.Keys.{value, row, count}
use Rattle.bpf_lists.specs.Refusals.{AreRows}
use Rattle.bpf_lists.specs.Order.{spot, lead}
use Rattle.bpf_lists.proofs.RowLemmas.{few_bits}
use Rattle.bpf_lists.proofs.KeyLemmas.{row_long, row_bytes, data_width, data_are_bytes}
use Rattle.bpf_lists.proofs.ValueLemmas.{AreBytes, cmp_less, cmp_more}
use Rattle.bpf_lists.proofs.LeadLemmas.{lead_above}
use Rattle.bpf_lists.proofs.NestLemmas.{le_or_lt}

-- what is less by its data is less by its data, its length and its number
spot_rises : (x y v w a b : ℕ) → x < y → v ≤ 512 → a < 2 ^ 32 → (x * 1024 + v) * 2 ^ 32 + a < (y * 1024 + w) * 2 ^ 32 + b
spot_rises x y v w a b less few small = omega (arith, less, few, small)

-- the row with the smaller number at its front comes first
front_rises : (kind : KeyKind) (keys : List ℕ) (last a b : ℕ) → AreRows kind keys → AreBytes keys → last < count kind keys → a < 2 ^ 32 →
    lead (data_of kind (row kind keys (min a last))) < lead (data_of kind (row kind keys (min b last))) → spot kind keys last a < spot kind keys last b
front_rises kind keys last a b rows bytes some small less =
    let a_in : min a last < count kind keys = omega (arith, some) in
    let b_in : min b last < count kind keys = omega (arith, some) in
    let x : List ℕ = row kind keys (min a last) in
    let y : List ℕ = row kind keys (min b last) in
    let same : length (data_of kind x) ≡ length (data_of kind y) =
    data_width kind x (row_long kind keys (min a last) a_in) ∙ sym (data_width kind y (row_long kind keys (min b last) b_in)) in
    let above = lead_above (data_of kind x) (data_of kind y) same (data_are_bytes kind x (row_bytes kind keys (min a last) bytes))
    (data_are_bytes kind y (row_bytes kind keys (min b last) bytes)) less in
    spot_rises (value (data_of kind x)) (value (data_of kind y)) (bits_of kind x) (bits_of kind y) a b above (few_bits kind keys (min a last) rows a_in) small

-- numbers that differ are compared as the rows are
pub fronts_decide : (kind : KeyKind) (keys : List ℕ) (last a b : ℕ) → AreRows kind keys → AreBytes keys → last < count kind keys → a < 2 ^ 32 → b < 2 ^ 32 →
    lead (data_of kind (row kind keys (min a last))) ≢ lead (data_of kind (row kind keys (min b last))) →
    nat_cmp (lead (data_of kind (row kind keys (min a last)))) (lead (data_of kind (row kind keys (min b last)))) ≡ nat_cmp (spot kind keys last a) (spot kind keys last b)
fronts_decide kind keys last a b rows bytes some a_small b_small differ =
    let x : ℕ = lead (data_of kind (row kind keys (min a last))) in
    let y : ℕ = lead (data_of kind (row kind keys (min b last))) in
    elim (le_or_lt y x) as (λ c. nat_cmp x y ≡ nat_cmp (spot kind keys last a) (spot kind keys last b)) [
      | inl le ↦
          let more : y < x = omega (arith, le, differ) in
          cmp_more x y more ∙ sym (cmp_more (spot kind keys last a) (spot kind keys last b) (front_rises kind keys last b a rows bytes some b_small more))
      | inr less ↦ cmp_less x y less ∙ sym (cmp_less (spot kind keys last a) (spot kind keys last b) (front_rises kind keys last a b rows bytes some a_small less))
    ]

-- one more row's number
pub fronts_more : (kind : KeyKind) (keys fronts : List ℕ) (n q : ℕ) → length fronts ≡ n → q ≡ lead (data_of kind (row kind keys n)) →
    ((r : ℕ) → r < n → slice_index fronts r ≡ lead (data_of kind (row kind keys r))) → (r : ℕ) → r < n + 1 →
    slice_index (fronts ++ q ∷ []) r ≡ lead (data_of kind (row kind keys r))
fronts_more kind keys fronts n q long is each r h = elim (le_or_lt n r) as (λ c. slice_index (fronts ++ q ∷ []) r ≡ lead (data_of kind (row kind keys r))) [
  | inl le ↦
      let last : r ≡ length fronts = omega (arith, le, h, long) in
      get_or_push fronts q 0 r (sym last) ∙ (is ∙ ap (λ (m : ℕ). lead (data_of kind (row kind keys m))) (sym (last ∙ long)))
  | inr less ↦ get_or_append_left fronts (q ∷ []) 0 r (omega (arith, less, long)) ∙ each r less
]
