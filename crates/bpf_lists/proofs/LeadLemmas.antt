-- The numbers at the fronts of data.
use Rattle.std.proofs.Common.{◌≡◌, ◌≢◌, ℕ, zero, suc, ◌+◌, ◌-◌, ◌*◌, ◌^◌, ◌<◌, ◌≤◌, inl, inr, List, [], ◌∷◌, ◌++◌, length, slice_index, take, drop, min, IsTrue, nat_lt, arith, sym, ◌∙◌, ap, subst, refl}
use Rattle.std.proofs.lemmas.Bool.Decides.{nat_tests}
use Rattle.std.proofs.Math.Pow.{pow_mono}
use Rattle.std.proofs.Math.Nat.{mul-le-mul_right, add-mul}
use Rattle.std.proofs.lemmas.List.{length-take-le, length-drop, get_or-drop, get_or_push, get_or_append_left}
use Rattle.bpf_note.specs.Keys.{data_of}
use Rattle.bpf_lists.specs.Keys.{value}
use Rattle.bpf_lists.specs.Order.{Ordered, at, lead}
use Rattle.bpf_lists.proofs.ValueLemmas.{AreBytes, value_below, value_split, take_bytes}
use Rattle.bpf_lists.proofs.NestLemmas.{le_or_lt}

-- a list that isn't longer is taken whole
taken_whole : (n : ℕ) (xs : List ℕ) → length xs ≤ n → take n xs ≡ xs
taken_whole zero [] h = refl
taken_whole zero (x ∷ xs) h = absurd (omega (arith, h))
taken_whole (suc n) [] h = refl
taken_whole (suc n) (x ∷ xs) h = ap (λ (ys : List ℕ). x ∷ ys) (taken_whole n xs (omega (arith, h)))

-- the front of no more than eight bytes
pub lead_of_front : (xs : List ℕ) (n : ℕ) → n ≡ min (length xs) 8 → value (take n xs) ≡ lead xs
lead_of_front xs n e = elim (le_or_lt 8 (length xs)) as (λ c. value (take n xs) ≡ lead xs) [
  | inl long ↦ (let eight : n ≡ 8 = omega (arith, e, long) in ap (λ m. value (take m xs)) eight)
  | inr short ↦
      let all : length xs ≤ n = omega (arith, e, short) in
      ap value (taken_whole n xs all ∙ sym (taken_whole 8 xs (omega (arith, short))))
]

-- a number of fewer than eight bytes has room for one more
pub room_for_one : (n byte : ℕ) (xs : List ℕ) → AreBytes xs → n < 8 → n ≤ length xs → byte < 256 → value (take n xs) * 256 + byte < 2 ^ 64
room_for_one n byte xs h few within small =
    let long : length (take n xs) ≡ n = length-take-le n xs within in
    let below : value (take n xs) < 2 ^ (8 * length (take n xs)) = value_below (take n xs) (take_bytes n xs h) in
    let most : 2 ^ (8 * length (take n xs)) ≤ 2 ^ 56 = pow_mono {i = 8 * length (take n xs)} {j = 56} (omega (arith, long, few)) in
    omega (arith, below, most, small)

drop_bytes : (k : ℕ) (xs : List ℕ) → AreBytes xs → AreBytes (drop k xs)
drop_bytes k xs h = λ i. subst (λ n. n < 256) (sym (get_or-drop k xs i 0)) (h (k + i))

above_by : (a b p v w : ℕ) → a < b → v < p → a * p + v < b * p + w
above_by a b p v w lt small =
    let more : (a + 1) * p ≤ b * p = mul-le-mul_right p (omega (arith, lt)) in
    let parts : (a + 1) * p ≡ a * p + 1 * p = add-mul a 1 p in
    omega (arith, more, parts, small)

pub lead_above : (xs ys : List ℕ) → length xs ≡ length ys → AreBytes xs → AreBytes ys → lead xs < lead ys → value xs < value ys
lead_above xs ys same f g lt = elim (le_or_lt 8 (length xs)) as (λ c. value xs < value ys) [
  | inl long ↦
      let x = value_split 8 xs long in
      let y : value ys ≡ value (take 8 ys) * 2 ^ (8 * (length xs - 8)) + value (drop 8 ys) = value_split 8 ys (omega (arith, long, same)) ∙ ap (λ (n : ℕ). value (take 8 ys) * 2 ^ (8 * (n - 8)) + value (drop 8 ys)) (sym same) in
      let rest : value (drop 8 xs) < 2 ^ (8 * (length xs - 8)) = subst (λ (n : ℕ). value (drop 8 xs) < 2 ^ (8 * n)) (length-drop 8 xs) (value_below (drop 8 xs) (drop_bytes 8 xs f)) in
      subst (λ n. n < value ys) (sym x) (subst (λ n. value (take 8 xs) * 2 ^ (8 * (length xs - 8)) + value (drop 8 xs) < n) (sym y)
      (above_by (value (take 8 xs)) (value (take 8 ys)) (2 ^ (8 * (length xs - 8))) (value (drop 8 xs)) (value (drop 8 ys)) lt rest))
  | inr short ↦
      subst (λ (zs : List ℕ). value zs < value ys) (taken_whole 8 xs (omega (arith, short)))
      (subst (λ (zs : List ℕ). value (take 8 xs) < value zs) (taken_whole 8 ys (omega (arith, short, same))) lt)
]

-- where the fronts differ, they decide
pub lead_decides : (xs ys : List ℕ) → length xs ≡ length ys → AreBytes xs → AreBytes ys → lead xs ≢ lead ys → value xs < value ys → lead xs < lead ys
lead_decides xs ys same f g other lt = elim (le_or_lt (lead ys) (lead xs)) as (λ c. lead xs < lead ys) [
  | inl le ↦ (let back = lead_above ys xs (sym same) g f (omega (arith, le, other)) in absurd (omega (arith, back, lt)))
  | inr less ↦ less
]

-- a test of two numbers that stand for two others
pub less_from : (a b x y : ℕ) → a ≡ x → b ≡ y → IsTrue (nat_lt a b) → x < y
less_from a b x y e f h = grind (arith, nat_tests)

pub less_to : (a b x y : ℕ) → a ≡ x → b ≡ y → x < y → IsTrue (nat_lt a b)
less_to a b x y e f h = grind (arith, nat_tests)

-- one more front
pub leads_more : (o : Ordered) (leads : List ℕ) (n q : ℕ) → length leads ≡ n → q ≡ lead (data_of o.kind (at o n)) →
    ((p : ℕ) → p < n → slice_index leads p ≡ lead (data_of o.kind (at o p))) → (p : ℕ) → p < n + 1 → slice_index (leads ++ q ∷ []) p ≡ lead (data_of o.kind (at o p))
leads_more o leads n q long is each p h = elim (le_or_lt n p) as (λ c. slice_index (leads ++ q ∷ []) p ≡ lead (data_of o.kind (at o p))) [
  | inl le ↦
      let last : p ≡ length leads = omega (arith, le, h, long) in
      get_or_push leads q 0 p (sym last) ∙ (is ∙ ap (λ (m : ℕ). lead (data_of o.kind (at o m))) (sym (last ∙ long)))
  | inr less ↦ get_or_append_left leads (q ∷ []) 0 p (omega (arith, less, long)) ∙ each p less
]
