-- Bytes as numbers in network byte order.
use Rattle.std.proofs.Common.{◌≡◌, ℕ, zero, suc, ◌+◌, ◌-◌, ◌*◌, ◌/◌, ◌%◌, ◌^◌, ◌<◌, ◌≤◌, List, [], ◌∷◌, length, get_or, take, drop}
use Rattle.std.proofs.Common.{refl, sym, ap, ◌∙◌, subst, arith, ◌↔◌, ◌⊎◌, inl, inr, All, IsTrue, Bool, true, false}
use Rattle.std.proofs.Math.Seq.{take-length}
use Rattle.std.proofs.Math.Pow.{pow-lt}
use Rattle.std.proofs.lemmas.List.Elements.{All-from_get_or}
use Rattle.std.specs.Ordering.{nat_cmp, ordering_then, is_gt}
use Rattle.std.specs.declared.cmp.Ordering.{Ordering}
use Rattle.std.specs.declared.cmp.Ordering.TheVariants.{Less, Greater}
use Rattle.std.specs.Cmp.Lexicographic.{slice_cmp}
use Rattle.std.proofs.lemmas.Bool.Decides.{nat_tests}
use Rattle.std.proofs.lemmas.Cmp.{by_ranked, ranked}
use Rattle.std.proofs.lemmas.List.{length-take-le, length-drop, get_or-drop}
use Rattle.std.proofs.lemmas.Nat.{mul-add-lt, pow-add, div-mul-add, pow_pos, mod-pow-add}
use Rattle.std.proofs.Math.Nat.{suc-sub-suc, div-lt_iff_lt-mul, mul-le-mul_right, add-mul, suc-mul, mul_assoc, mul_comm, mod-eq_of_lt, div-div-eq-div-mul, mul-add-div_right, mul-add-mod_self_right}
use Rattle.bpf_lists.specs.Keys.{value, first}

-- a product is 0 only where a factor is
pub mul_zero_left : (a b : ℕ) → 0 < b → a * b ≡ 0 → a ≡ 0
mul_zero_left zero b h e = refl
mul_zero_left (suc a) b h e = let s = suc-mul a b in absurd (omega arith)

abbrev pub AreBytes : List ℕ → Type 0
AreBytes xs = (k : ℕ) → get_or xs k 0 < 256

pub tail_bytes : (x : ℕ) (xs : List ℕ) → AreBytes (x ∷ xs) → AreBytes xs
tail_bytes x xs h = λ k. h (suc k)

one_more : (n : ℕ) → 2 ^ (8 * suc n) ≡ 256 * 2 ^ (8 * n)
one_more n =
    let e : 8 * suc n ≡ 8 + 8 * n = omega arith in
    ap (λ m. 2 ^ m) e ∙ pow-add 2 8 (8 * n)

pub value_below : (xs : List ℕ) → AreBytes xs → value xs < 2 ^ (8 * length xs)
value_below [] h = omega arith
value_below (x ∷ xs) h =
    let below : x < 256 = h 0 in
    let rest : value xs < 2 ^ (8 * length xs) = value_below xs (tail_bytes x xs h) in
    let e = mul-add-lt x (2 ^ (8 * length xs)) (value xs) 256 below rest in
    let w = one_more (length xs) in
    omega arith

pub cmp_less : (a b : ℕ) → a < b → nat_cmp a b ≡ Less
cmp_less a b h = grind (arith, nat_tests)

pub cmp_more : (a b : ℕ) → b < a → nat_cmp a b ≡ Greater
cmp_more a b h = grind (arith, nat_tests)

cmp_shift : (k a b : ℕ) → nat_cmp a b ≡ nat_cmp (k + a) (k + b)
cmp_shift k a b = grind (arith, nat_tests)

above_by_first : (x y v w p : ℕ) → v < p → x < y → x * p + v < y * p + w
above_by_first x y v w p a h =
    let e : suc x * p ≤ y * p = mul-le-mul_right p (omega arith) in
    let s = suc-mul x p in
    omega arith

pub lex_number : (x y v w p : ℕ) → v < p → w < p → ordering_then (nat_cmp x y) (nat_cmp v w) ≡ nat_cmp (x * p + v) (y * p + w)
lex_number x y v w p a b = by_ranked (x < y) (x ≡ y) (y < x) (nat_cmp x y) (ranked x y (nat_cmp x y) refl)
    (λ e h. ap (λ o. ordering_then o (nat_cmp v w)) e ∙ sym (cmp_less (x * p + v) (y * p + w) (above_by_first x y v w p a h)))
    (λ e h. ap (λ o. ordering_then o (nat_cmp v w)) e ∙ cmp_shift (x * p) v w ∙ ap (λ z. nat_cmp (x * p + v) (z * p + w)) h)
    (λ e h. ap (λ o. ordering_then o (nat_cmp v w)) e ∙ sym (cmp_more (x * p + v) (y * p + w) (above_by_first y x w v p b h)))

pub value_order : (xs ys : List ℕ) → length xs ≡ length ys → AreBytes xs → AreBytes ys → slice_cmp nat_cmp xs ys ≡ nat_cmp (value xs) (value ys)
value_order [] [] e f g = refl
value_order [] (y ∷ ys) e f g = absurd (omega arith)
value_order (x ∷ xs) [] e f g = absurd (omega arith)
value_order (x ∷ xs) (y ∷ ys) e f g =
    let same : length xs ≡ length ys = omega arith in
    let below : value xs < 2 ^ (8 * length xs) = value_below xs (tail_bytes x xs f) in
    let other : value ys < 2 ^ (8 * length xs) = subst (λ n. value ys < 2 ^ (8 * n)) (sym same) (value_below ys (tail_bytes y ys g)) in
    ap (λ o. ordering_then (nat_cmp x y) o) (value_order xs ys same (tail_bytes x xs f) (tail_bytes y ys g))
    ∙ lex_number x y (value xs) (value ys) (2 ^ (8 * length xs)) below other
    ∙ ap (λ n. nat_cmp (x * 2 ^ (8 * length xs) + value xs) (y * 2 ^ (8 * n) + value ys)) same

split_step : (x p a r t v d : ℕ) → p ≡ a * r → v ≡ t * r + d → x * p + v ≡ (x * a + t) * r + d
split_step x p a r t v d e f =
    let m : x * p ≡ x * a * r = ap (λ n. x * n) e ∙ sym (mul_assoc x a r) in
    let g : (x * a + t) * r ≡ x * a * r + t * r = add-mul (x * a) t r in
    omega arith

pub value_split : (k : ℕ) (xs : List ℕ) → k ≤ length xs → value xs ≡ value (take k xs) * 2 ^ (8 * (length xs - k)) + value (drop k xs)
value_split zero xs h = omega arith
value_split (suc k) [] h = absurd (omega arith)
value_split (suc k) (x ∷ xs) h =
    let k_in : k ≤ length xs = omega arith in
    let long : length (take k xs) ≡ k = length-take-le k xs k_in in
    let exp : 8 * length xs ≡ 8 * length (take k xs) + 8 * (length xs - k) = omega arith in
    let p : 2 ^ (8 * length xs) ≡ 2 ^ (8 * length (take k xs)) * 2 ^ (8 * (length xs - k)) =
    ap (λ n. 2 ^ n) exp ∙ pow-add 2 (8 * length (take k xs)) (8 * (length xs - k)) in
    rw (suc-sub-suc (length xs) k) (split_step x _ _ _ (value (take k xs)) (value xs) (value (drop k xs)) p (value_split k xs k_in))

snoc_step : (x p a t v g : ℕ) → p ≡ 256 * a → v ≡ t * 256 + g → x * p + v ≡ (x * a + t) * 256 + g
snoc_step x p a t v g e f =
    let m : x * p ≡ 256 * (x * a) = ap (λ n. x * n) e ∙ sym (mul_assoc x 256 a) ∙ ap (λ n. n * a) (mul_comm x 256) ∙ mul_assoc 256 x a in
    omega arith

pub value_snoc : (k : ℕ) (xs : List ℕ) → k < length xs → value (take (suc k) xs) ≡ value (take k xs) * 256 + get_or xs k 0
value_snoc zero [] h = absurd (omega arith)
value_snoc zero (x ∷ xs) h = omega arith
value_snoc (suc k) [] h = absurd (omega arith)
value_snoc (suc k) (x ∷ xs) h =
    let k_in : k < length xs = omega arith in
    let more : length (take (suc k) xs) ≡ suc k = length-take-le (suc k) xs (omega arith) in
    let long : length (take k xs) ≡ k = length-take-le k xs (omega arith) in
    let exp : 2 ^ (8 * length (take (suc k) xs)) ≡ 256 * 2 ^ (8 * length (take k xs)) =
    ap (λ n. 2 ^ (8 * n)) (more ∙ sym (ap suc long)) ∙ one_more (length (take k xs)) in
    snoc_step x _ _ (value (take k xs)) _ _ exp (value_snoc k xs k_in)

pub value_injective : (xs ys : List ℕ) → length xs ≡ length ys → AreBytes xs → AreBytes ys → value xs ≡ value ys → xs ≡ ys
value_injective [] [] e f g same = refl
value_injective [] (y ∷ ys) e f g same = absurd (omega arith)
value_injective (x ∷ xs) [] e f g same = absurd (omega arith)
value_injective (x ∷ xs) (y ∷ ys) e f g same =
    let long : length xs ≡ length ys = omega arith in
    let p : ℕ = 2 ^ (8 * length xs) in
    let below : value xs < p = value_below xs (tail_bytes x xs f) in
    let other : value ys < p = subst (λ n. value ys < 2 ^ (8 * n)) (sym long) (value_below ys (tail_bytes y ys g)) in
    let q : 2 ^ (8 * length ys) ≡ p = ap (λ n. 2 ^ (8 * n)) (sym long) in
    let total : x * p + value xs ≡ y * p + value ys = same ∙ ap (λ n. y * n + value ys) q in
    let heads : x ≡ y = sym (div-mul-add x p (value xs) below) ∙ ap (λ n. n / p) total ∙ div-mul-add y p (value ys) other in
    let rows : x * p ≡ y * p = ap (λ n. n * p) heads in
    let tails : xs ≡ ys = value_injective xs ys long (tail_bytes x xs f) (tail_bytes y ys g) (omega arith) in
    (λ i. heads i ∷ tails i)

rest_below : (k : ℕ) (xs : List ℕ) → AreBytes xs → k ≤ length xs → value (drop k xs) < 2 ^ (8 * (length xs - k))
rest_below k xs h k_in =
    let each : AreBytes (drop k xs) = λ i. subst (λ n. n < 256) (sym (get_or-drop k xs i 0)) (h (k + i)) in
    subst (λ n. value (drop k xs) < 2 ^ (8 * n)) (length-drop k xs) (value_below (drop k xs) each)

-- the first bits, where they end with a byte
pub first_whole : (k bits : ℕ) (xs : List ℕ) → AreBytes xs → bits ≡ 8 * k → k ≤ length xs → first bits xs ≡ value (take k xs)
first_whole k bits xs h e k_in =
    let exp : 8 * length xs - bits ≡ 8 * (length xs - k) = omega arith in
    ap (λ n. value xs / 2 ^ n) exp
    ∙ ap (λ n. n / 2 ^ (8 * (length xs - k))) (value_split k xs k_in)
    ∙ div-mul-add (value (take k xs)) (2 ^ (8 * (length xs - k))) (value (drop k xs)) (rest_below k xs h k_in)

byte_parts : (t r x : ℕ) → r < 8 → t * 256 + x ≡ t * 2 ^ r * 2 ^ (8 - r) + x
byte_parts t r x less =
    let exp : 8 ≡ r + (8 - r) = omega arith in
    let p : 256 ≡ 2 ^ r * 2 ^ (8 - r) = ap (λ n. 2 ^ n) exp ∙ pow-add 2 r (8 - r) in
    ap (λ n. n + x) (ap (λ n. t * n) p ∙ sym (mul_assoc t (2 ^ r) (2 ^ (8 - r))))

-- the first bits, where they end within byte k
pub first_part : (k r bits : ℕ) (xs : List ℕ) → AreBytes xs → bits ≡ 8 * k + r → r < 8 → k < length xs →
    first bits xs ≡ value (take k xs) * 2 ^ r + get_or xs k 0 / 2 ^ (8 - r)
first_part k r bits xs h e less k_in =
    let n = length xs in
    let exp : 8 * length xs - bits ≡ (8 * length xs - 8 * suc k) + (8 - r) = omega arith in
    ap (λ m. value xs / 2 ^ m) exp
    ∙ ap (λ m. value xs / m) (pow-add 2 (8 * length xs - 8 * suc k) (8 - r))
    ∙ sym (div-div-eq-div-mul (value xs) (2 ^ (8 * length xs - 8 * suc k)) (2 ^ (8 - r)))
    ∙ ap (λ m. m / 2 ^ (8 - r)) (first_whole (suc k) (8 * suc k) xs h refl (omega arith)
    ∙ value_snoc k xs k_in ∙ byte_parts (value (take k xs)) r (get_or xs k 0) less)
    ∙ mul-add-div_right (pow_pos (8 - r)) (value (take k xs) * 2 ^ r) (get_or xs k 0)

-- what stands beyond the first bits, where they end with a byte
pub rest_whole : (k bits : ℕ) (xs : List ℕ) → AreBytes xs → bits ≡ 8 * k → k ≤ length xs →
    value xs % 2 ^ (8 * length xs - bits) ≡ value (drop k xs)
rest_whole k bits xs h e k_in =
    let exp : 8 * length xs - bits ≡ 8 * (length xs - k) = omega arith in
    ap (λ n. value xs % 2 ^ n) exp
    ∙ ap (λ n. n % 2 ^ (8 * (length xs - k))) (value_split k xs k_in)
    ∙ mul-add-mod_self_right (value (take k xs)) (2 ^ (8 * (length xs - k))) (value (drop k xs))
    ∙ mod-eq_of_lt (rest_below k xs h k_in)

-- the same within byte k
pub rest_part : (k r bits : ℕ) (xs : List ℕ) → AreBytes xs → bits ≡ 8 * k + r → r < 8 → k < length xs →
    value xs % 2 ^ (8 * length xs - bits) ≡ (get_or xs k 0 % 2 ^ (8 - r)) * 2 ^ (8 * length xs - 8 * suc k) + value (drop (suc k) xs)
rest_part k r bits xs h e less k_in =
    let exp : 8 * length xs - bits ≡ (8 - r) + (8 * length xs - 8 * suc k) = omega arith in
    let head : value xs / 2 ^ (8 * length xs - 8 * suc k) % 2 ^ (8 - r) ≡ get_or xs k 0 % 2 ^ (8 - r) =
    ap (λ m. m % 2 ^ (8 - r)) (first_whole (suc k) (8 * suc k) xs h refl (omega arith)
    ∙ value_snoc k xs k_in ∙ byte_parts (value (take k xs)) r (get_or xs k 0) less)
    ∙ mul-add-mod_self_right (value (take k xs) * 2 ^ r) (2 ^ (8 - r)) (get_or xs k 0) in
    ap (λ m. value xs % 2 ^ m) exp
    ∙ mod-pow-add (value xs) (8 - r) (8 * length xs - 8 * suc k)
    ∙ ap (λ m. m * 2 ^ (8 * length xs - 8 * suc k) + value xs % 2 ^ (8 * length xs - 8 * suc k)) head
    ∙ ap (λ m. (get_or xs k 0 % 2 ^ (8 - r)) * 2 ^ (8 * length xs - 8 * suc k) + m) (rest_whole (suc k) (8 * suc k) xs h refl (omega arith))

pub zero_each : (xs : List ℕ) → value xs ≡ 0 → (k : ℕ) → get_or xs k 0 ≡ 0
zero_each [] e k = refl
zero_each (x ∷ xs) e zero = mul_zero_left x (2 ^ (8 * length xs)) (pow_pos (8 * length xs)) (omega arith)
zero_each (x ∷ xs) e (suc k) = zero_each xs (omega arith) k

pub take_bytes : (k : ℕ) (xs : List ℕ) → AreBytes xs → (i : ℕ) → get_or (take k xs) i 0 < 256
take_bytes zero xs h i = omega arith
take_bytes (suc k) [] h i = h i
take_bytes (suc k) (x ∷ xs) h zero = h 0
take_bytes (suc k) (x ∷ xs) h (suc i) = take_bytes k xs (tail_bytes x xs h) i

take_same : (k : ℕ) (xs ys : List ℕ) → AreBytes xs → AreBytes ys → length xs ≡ length ys → k ≤ length xs → value (take k xs) ≡ value (take k ys) → take k xs ≡ take k ys
take_same k xs ys f g long k_in e =
    value_injective (take k xs) (take k ys) (length-take-le k xs k_in ∙ sym (length-take-le k ys (omega arith))) (take_bytes k xs f) (take_bytes k ys g) e

pub alike_whole : (k bits : ℕ) (xs ys : List ℕ) → AreBytes xs → AreBytes ys → length xs ≡ length ys → bits ≡ 8 * k → k ≤ length xs →
    (first bits xs ≡ first bits ys) ↔ (take k xs ≡ take k ys)
alike_whole k bits xs ys f g long e k_in =
    let x = first_whole k bits xs f e k_in in
    let y = first_whole k bits ys g e (omega arith) in
    (λ same. take_same k xs ys f g long k_in (sym x ∙ same ∙ y), λ same. x ∙ ap value same ∙ sym y)

part_below : (r x : ℕ) → r < 8 → x < 256 → x / 2 ^ (8 - r) < 2 ^ r
part_below r x less h =
    let exp : 8 ≡ r + (8 - r) = omega arith in
    let p : 256 ≡ 2 ^ r * 2 ^ (8 - r) = ap (λ n. 2 ^ n) exp ∙ pow-add 2 r (8 - r) in
    (div-lt_iff_lt-mul {k = 2 ^ (8 - r)} {x = x} {y = 2 ^ r} (pow_pos (8 - r))).1 (subst (λ n. x < n) p h)

pub alike_part : (k r bits : ℕ) (xs ys : List ℕ) → AreBytes xs → AreBytes ys → length xs ≡ length ys → bits ≡ 8 * k + r → r < 8 → k < length xs →
    (first bits xs ≡ first bits ys) ↔ ((take k xs ≡ take k ys) × (get_or xs k 0 / 2 ^ (8 - r) ≡ get_or ys k 0 / 2 ^ (8 - r)))
alike_part k r bits xs ys f g long e less k_in = (apart, together)
  where
    x : first bits xs ≡ value (take k xs) * 2 ^ r + get_or xs k 0 / 2 ^ (8 - r)
    x = first_part k r bits xs f e less k_in

    y : first bits ys ≡ value (take k ys) * 2 ^ r + get_or ys k 0 / 2 ^ (8 - r)
    y = first_part k r bits ys g e less (omega arith)

    apart : first bits xs ≡ first bits ys → (take k xs ≡ take k ys) × (get_or xs k 0 / 2 ^ (8 - r) ≡ get_or ys k 0 / 2 ^ (8 - r))
    apart same =
        let p : ℕ = 2 ^ r in
        let total = sym x ∙ same ∙ y in
        let heads : value (take k xs) ≡ value (take k ys) =
        sym (div-mul-add (value (take k xs)) (2 ^ r) _ (part_below r _ less (f k))) ∙ ap (λ n. n / 2 ^ r) total
        ∙ div-mul-add (value (take k ys)) (2 ^ r) _ (part_below r _ less (g k)) in
        let rows : value (take k xs) * 2 ^ r ≡ value (take k ys) * 2 ^ r = ap (λ n. n * 2 ^ r) heads in
        (take_same k xs ys f g long (omega arith) heads, omega arith)

    together : (take k xs ≡ take k ys) × (get_or xs k 0 / 2 ^ (8 - r) ≡ get_or ys k 0 / 2 ^ (8 - r)) → first bits xs ≡ first bits ys
    together same = x ∙ ap (λ l. value l * 2 ^ r + get_or xs k 0 / 2 ^ (8 - r)) same.0 ∙ ap (λ n. value (take k ys) * 2 ^ r + n) same.1 ∙ sym y

pub plain_whole : (k bits : ℕ) (xs : List ℕ) → AreBytes xs → bits ≡ 8 * k → k ≤ length xs →
    (value (drop k xs) ≡ 0) ↔ (value xs % 2 ^ (8 * length xs - bits) ≡ 0)
plain_whole k bits xs h e k_in =
    let is = rest_whole k bits xs h e k_in in
    (λ zeros. is ∙ zeros, λ zeros. sym is ∙ zeros)

pub plain_part : (k r bits : ℕ) (xs : List ℕ) → AreBytes xs → bits ≡ 8 * k + r → r < 8 → k < length xs →
    ((get_or xs k 0 % 2 ^ (8 - r) ≡ 0) × (value (drop (suc k) xs) ≡ 0)) ↔ (value xs % 2 ^ (8 * length xs - bits) ≡ 0)
plain_part k r bits xs h e less k_in =
    let is = rest_part k r bits xs h e less k_in in (
      (λ zeros.
          let row : (get_or xs k 0 % 2 ^ (8 - r)) * 2 ^ (8 * length xs - 8 * suc k) ≡ 0 * 2 ^ (8 * length xs - 8 * suc k) =
          ap (λ n. n * 2 ^ (8 * length xs - 8 * suc k)) zeros.0 in
          let last = zeros.1 in
          omega arith),
      (λ zeros.
          let sum = sym is ∙ zeros in
          (mul_zero_left (get_or xs k 0 % 2 ^ (8 - r)) (2 ^ (8 * length xs - 8 * suc k)) (pow_pos (8 * length xs - 8 * suc k)) (omega arith), omega arith)),
    )

zero_or_more : (n : ℕ) → (n ≡ 0) ⊎ (0 < n)
zero_or_more zero = inl refl
zero_or_more (suc n) = inr (omega arith)

pub alike_take : (bits : ℕ) (xs ys : List ℕ) → AreBytes xs → AreBytes ys → length xs ≡ length ys → bits ≤ 8 * length xs →
    first bits xs ≡ first bits ys → take (bits / 8) xs ≡ take (bits / 8) ys
alike_take bits xs ys f g long within same = elim (zero_or_more (bits % 8)) [
  | inl none ↦ (alike_whole (bits / 8) bits xs ys f g long (omega arith) (omega arith)).0 same
  | inr some ↦ ((alike_part (bits / 8) (bits % 8) bits xs ys f g long (omega arith) (omega arith) (omega arith)).0 same).0
]

pub zero_value : (xs : List ℕ) → All (λ (byte : ℕ). byte ≡ 0) xs → value xs ≡ 0
zero_value [] h = refl
zero_value (x ∷ xs) h =
    let head : x ≡ 0 = h 0 0 (omega arith) in
    let tail : value xs ≡ 0 = zero_value xs (λ k d less. h (suc k) d (omega arith)) in
    let row : x * 2 ^ (8 * length xs) ≡ 0 * 2 ^ (8 * length xs) = ap (λ n. n * 2 ^ (8 * length xs)) head in
    omega arith

take_rest : (k : ℕ) (xs : List ℕ) → take (length xs - k) (drop k xs) ≡ drop k xs
take_rest k xs = ap (λ n. take n (drop k xs)) (sym (length-drop k xs)) ∙ take-length (drop k xs)

-- what a test of all bytes from k on says
pub rest_zero : (k : ℕ) (xs : List ℕ) (r : Bool) → IsTrue r ↔ All (λ (byte : ℕ). byte ≡ 0) (take (length xs - k) (drop k xs)) →
    IsTrue r ↔ (value (drop k xs) ≡ 0)
rest_zero k xs r h = (
  (λ yes. zero_value (drop k xs) (subst (All (λ (byte : ℕ). byte ≡ 0)) (take_rest k xs) (h.0 yes))),
  (λ zeros. h.1 (subst (All (λ (byte : ℕ). byte ≡ 0)) (sym (take_rest k xs))
      (All-from_get_or (λ (byte : ℕ). byte ≡ 0) (drop k xs) 0 (λ i less. zero_each (drop k xs) zeros i)))),
)

-- the divisor in the test of a byte's lowest bits
pub low_bits : (r : ℕ) → 0 < r → r < 8 → 1 * 2 ^ (8 - r) % 256 ≡ 2 ^ (8 - r)
low_bits r some less =
    let one : 1 * 2 ^ (8 - r) ≡ 2 ^ (8 - r) = omega arith in
    let below : 2 ^ (8 - r) < 2 ^ 8 = pow-lt {i = 8 - r} {j = 8} (omega arith) in
    ap (λ n. n % 256) one ∙ mod-eq_of_lt below

-- what the test `is_gt` says of a comparison
pub gt_is : (a b : ℕ) (r : Ordering) → r ≡ nat_cmp a b → is_gt r ≡ true → b < a
gt_is a b r e more = by_ranked (a < b) (a ≡ b) (b < a) r (ranked a b r e)
    (λ is h. let no : is_gt r ≡ false = ap is_gt is in absurd cc)
    (λ is h. let no : is_gt r ≡ false = ap is_gt is in absurd cc)
    (λ is h. h)

pub not_gt_is : (a b : ℕ) (r : Ordering) → r ≡ nat_cmp a b → is_gt r ≡ false → a ≤ b
not_gt_is a b r e most = by_ranked (a < b) (a ≡ b) (b < a) r (ranked a b r e)
    (λ is h. omega arith)
    (λ is h. omega arith)
    (λ is h. let yes : is_gt r ≡ true = ap is_gt is in absurd cc)
