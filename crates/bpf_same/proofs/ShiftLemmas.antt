-- The numbers that a shift by a constant makes of those of a range.
use Rattle.std.proofs.Common.{ℕ, ◌+◌, ◌-◌, ◌*◌, ◌/◌, ◌%◌, ◌^◌, ◌≡◌, ◌<◌, ◌≤◌, arith, sym, ap, ◌∙◌, subst, pos, negsuc, ℤ, Option, None, Some, true, ◌⊎◌, inl, inr}
use Rattle.std.specs.Prelude.{IfSome}
use Rattle.std.proofs.lemmas.Bool.Decides.{nat_tests}
use Rattle.std.proofs.lemmas.Int.{ints}
use Rattle.std.proofs.lemmas.Nat.{mod-mul-add, mul-le, le-div, pow-add, pow_pos}
use Rattle.std.proofs.Math.Pow.{pow_mono}
use Rattle.std.proofs.Math.Nat.{div-add-mod, div-le_self, div-mul-le_self, mod-lt}
use Rattle.bpf_insn.specs.Signed.{signed_reading, modulo}
use Rattle.bpf_insn.specs.Arithmetic.{computed, divided_down}
use Rattle.bpf_insn.specs.declared.alu_op.AluOp.{AluOp}
use Rattle.bpf_insn.specs.declared.alu_op.AluOp.TheVariants as op
use Rattle.bpf_flow.specs.Step.{first_operand}
use Rattle.bpf_same.specs.declared.range.Range.{Range}
use Rattle.bpf_same.specs.Ranges.{IsShiftedLeft, IsShiftedRight}
use Rattle.bpf_same.specs.Stepped.{IsCombined}

some_is : {x y : ℕ} → Some x ≡ Some y → x ≡ y
some_is e = cc

divided : (x y d : ℕ) → 0 < d → x ≤ y → x / d ≤ y / d
divided x y d some h = let under : x / d * d ≤ x = div-mul-le_self x d in le-div (x / d) y d some (omega (arith, under, h))

-- a number without its upper bits, shifted
left_value : (x q r w k : ℕ) → x ≡ q * w + r → r < w → w * 2 ^ k ≡ 2 ^ 64 → (x * 2 ^ k) % 2 ^ 64 ≡ r * 2 ^ k
left_value x q r w k split less whole =
    let parts : x * 2 ^ k ≡ q * (w * 2 ^ k) + r * 2 ^ k = grind (arith, split) in
    let small : r * 2 ^ k < w * 2 ^ k = grind (arith, less, pow_pos k) in
    ap (λ (z : ℕ). z % 2 ^ 64) (parts ∙ ap (λ (z : ℕ). q * z + r * 2 ^ k) whole) ∙ mod-mul-add q (2 ^ 64) (r * 2 ^ k) (omega (arith, small, whole))

left_between : (from to x j k : ℕ) → 2 ^ j * 2 ^ k ≡ 2 ^ 64 → from / 2 ^ j ≡ to / 2 ^ j → from ≤ x → x ≤ to → ((from * 2 ^ k) % 2 ^ 64 ≤ (x * 2 ^ k) % 2 ^ 64) × ((x * 2 ^ k) % 2 ^ 64 ≤ (to * 2 ^ k) % 2 ^ 64)
left_between from to x j k whole one a b =
    let d = pow_pos j in
    let least : from / 2 ^ j ≤ x / 2 ^ j = divided from x (2 ^ j) d a in
    let most : x / 2 ^ j ≤ to / 2 ^ j = divided x to (2 ^ j) d b in
    let q : ℕ = from / 2 ^ j in
    let p1 = parted from (2 ^ j) d in
    let p2 = parted x (2 ^ j) d in
    let p3 = parted to (2 ^ j) d in
    let xq : x ≡ q * 2 ^ j + x % 2 ^ j = p2.0 ∙ ap (λ (z : ℕ). z * 2 ^ j + x % 2 ^ j) (omega (arith, least, most, one)) in
    let tq : to ≡ q * 2 ^ j + to % 2 ^ j = p3.0 ∙ ap (λ (z : ℕ). z * 2 ^ j + to % 2 ^ j) (sym one) in
    let f = left_value from q (from % 2 ^ j) (2 ^ j) k p1.0 p1.1 whole in
    let v = left_value x q (x % 2 ^ j) (2 ^ j) k xq p2.1 whole in
    let t = left_value to q (to % 2 ^ j) (2 ^ j) k tq p3.1 whole in
    let fx = p1.0 in
    let l : from % 2 ^ j * 2 ^ k ≤ x % 2 ^ j * 2 ^ k = mul-le (from % 2 ^ j) (2 ^ k) (x % 2 ^ j) (2 ^ k) (omega (arith, fx, xq, a)) (omega arith) in
    let m : x % 2 ^ j * 2 ^ k ≤ to % 2 ^ j * 2 ^ k = mul-le (x % 2 ^ j) (2 ^ k) (to % 2 ^ j) (2 ^ k) (omega (arith, xq, tq, b)) (omega arith) in
    (omega (arith, f, v, l), omega (arith, v, t, m))
  where
    parted : (x d : ℕ) → 0 < d → (x ≡ x / d * d + x % d) × (x % d < d)
    parted x d some = (omega (arith, div-add-mod x d), mod-lt x some)

lsh_value : (x k : ℕ) → x < 2 ^ 64 → k < 64 → computed op.Lsh true x k ≡ (x * 2 ^ k) % 2 ^ 64
unfolding computed
lsh_value x k l m =
    let number : x % 2 ^ 64 ≡ x = omega (arith, l) in
    let by : k % 2 ^ 64 % 64 ≡ k = omega (arith, m) in
    ap (λ (x : ℕ). (x * 2 ^ (k % 2 ^ 64 % 64)) % 2 ^ 64) number ∙ ap (λ (k : ℕ). (x * 2 ^ k) % 2 ^ 64) by

shifts_by_one : (from to k low high : ℕ) → to < 2 ^ 64 → k < 64 → from / 2 ^ (64 - k) ≡ to / 2 ^ (64 - k) → low ≡ (from * 2 ^ k) % 2 ^ 64 → high ≡ (to * 2 ^ k) % 2 ^ 64 → (x : ℕ) → from ≤ x → x ≤ to → (low ≤ computed op.Lsh true x k) × (computed op.Lsh true x k ≤ high)
shifts_by_one from to k low high fits few one bottom top = λ x a b.
    let bits : 64 - k + k ≡ 64 = omega (arith, few) in
    let whole : 2 ^ (64 - k) * 2 ^ k ≡ 2 ^ 64 = sym (pow-add 2 (64 - k) k) ∙ ap (λ (z : ℕ). 2 ^ z) bits in
    let value = lsh_value x k (omega (arith, b, fits)) few in
    let both = left_between from to x (64 - k) k whole one a b in
    let least = both.0 in
    let most = both.1 in
    (omega (arith, bottom, value, least), omega (arith, top, value, most))

-- numbers that are shifted by the same number, which loses the same bits of all
pub shifts_left : (from to first last low high : ℕ) → to < 2 ^ 64 → last < 64 → first ≡ last → from / 2 ^ (64 - last) ≡ to / 2 ^ (64 - last) → low ≡ (from * 2 ^ first) % 2 ^ 64 → high ≡ (to * 2 ^ last) % 2 ^ 64 → IsShiftedLeft from to first last low high
shifts_left from to first last low high fits few same one bottom top = λ x by a b least most.
    let there : last ≡ by = omega (arith, same, least, most) in
    let both = shifts_by_one from to last low high fits few one (bottom ∙ ap (λ (k : ℕ). (from * 2 ^ k) % 2 ^ 64) same) top x a b in
    subst (λ (k : ℕ). (low ≤ computed op.Lsh true x k) × (computed op.Lsh true x k ≤ high)) there both

-- a number that loses no bit
kept_bits : (to k : ℕ) → k < 64 → 0 ≡ to / 2 ^ (64 - k) → to * 2 ^ k < 2 ^ 64
kept_bits to k few none =
    let bits : 64 - k + k ≡ 64 = omega (arith, few) in
    let whole : 2 ^ (64 - k) * 2 ^ k ≡ 2 ^ 64 = sym (pow-add 2 (64 - k) k) ∙ ap (λ (z : ℕ). 2 ^ z) bits in
    let d = pow_pos (64 - k) in
    let split = div-add-mod to (2 ^ (64 - k)) in
    let rest = mod-lt to d in
    let less : to < 2 ^ (64 - k) = grind (arith, split, rest, none) in
    let small : to * 2 ^ k < 2 ^ (64 - k) * 2 ^ k = grind (arith, less, pow_pos k) in
    omega (arith, small, whole)

-- numbers that are shifted by several numbers, which lose no bit
pub shifts_by_several : (from to first last low high : ℕ) → to < 2 ^ 64 → last < 64 → from / 2 ^ (64 - last) ≡ to / 2 ^ (64 - last) → 0 ≡ to / 2 ^ (64 - last) → low ≡ (from * 2 ^ first) % 2 ^ 64 → high ≡ (to * 2 ^ last) % 2 ^ 64 → IsShiftedLeft from to first last low high
shifts_by_several from to first last low high fits few one none bottom top = λ x by a b least most.
    let whole = kept_bits to last few none in
    let lower : from * 2 ^ first ≤ x * 2 ^ by = mul-le from (2 ^ first) x (2 ^ by) a (pow_mono least) in
    let upper : x * 2 ^ by ≤ to * 2 ^ last = mul-le x (2 ^ by) to (2 ^ last) b (pow_mono most) in
    let value = lsh_value x by (omega (arith, b, fits)) (omega (arith, most, few)) in
    (omega (arith, bottom, value, lower, upper, whole), omega (arith, top, value, upper, whole))

pub shifts_either : (from to first last low high : ℕ) → to < 2 ^ 64 → last < 64 → from / 2 ^ (64 - last) ≡ to / 2 ^ (64 - last) → ((first ≡ last → ⊥) × (to / 2 ^ (64 - last) ≡ 0)) ⊎ (first ≡ last) → low ≡ (from * 2 ^ first) % 2 ^ 64 → high ≡ (to * 2 ^ last) % 2 ^ 64 → IsShiftedLeft from to first last low high
shifts_either from to first last low high fits few one (inl both) bottom top = shifts_by_several from to first last low high fits few one (sym both.1) bottom top
shifts_either from to first last low high fits few one (inr same) bottom top = shifts_left from to first last low high fits few same one bottom top

reading_small : (x : ℕ) → x < 2 ^ 63 → signed_reading (2 ^ 64) x ≡ pos x
reading_small x l = grind (arith, ints, nat_tests)

reading_great : (x : ℕ) → x < 2 ^ 64 → 2 ^ 63 ≤ x → signed_reading (2 ^ 64) x ≡ negsuc (2 ^ 64 - 1 - x)
reading_great x l m = grind (arith, ints, nat_tests)

arsh_as : (x k : ℕ) → x < 2 ^ 64 → k < 64 → computed op.Arsh true x k ≡ modulo (2 ^ 64) (divided_down (signed_reading (2 ^ 64) x) (2 ^ k))
unfolding computed
arsh_as x k l m =
    let number : x % 2 ^ 64 ≡ x = omega (arith, l) in
    let by : k % 2 ^ 64 % 64 ≡ k = omega (arith, m) in
    ap (λ (x : ℕ). modulo (2 ^ 64) (divided_down (signed_reading (2 ^ 64) x) (2 ^ (k % 2 ^ 64 % 64)))) number ∙ ap (λ (k : ℕ). modulo (2 ^ 64) (divided_down (signed_reading (2 ^ 64) x) (2 ^ k))) by

small_value : (x k : ℕ) → x < 2 ^ 63 → k < 64 → computed op.Arsh true x k ≡ x / 2 ^ k
small_value x k l m = arsh_as x k (omega (arith, l)) m ∙ (ap (λ (z : ℤ). modulo (2 ^ 64) (divided_down z (2 ^ k))) (reading_small x l) ∙ omega (arith, l, div-le_self x (2 ^ k)))

great_value : (x k : ℕ) → x < 2 ^ 64 → 2 ^ 63 ≤ x → k < 64 → computed op.Arsh true x k ≡ 2 ^ 64 - 1 - (2 ^ 64 - 1 - x) / 2 ^ k
great_value x k l g m = arsh_as x k l m ∙ (ap (λ (z : ℤ). modulo (2 ^ 64) (divided_down z (2 ^ k))) (reading_great x l g) ∙ omega (arith, l, g, div-le_self (2 ^ 64 - 1 - x) (2 ^ k)))

pub small_right : (from to k low high : ℕ) → to < 2 ^ 63 → k < 64 → low ≡ from / 2 ^ k → high ≡ to / 2 ^ k → IsShiftedRight from to k low high
small_right from to k low high fits few bottom top = λ x a b.
    let value = small_value x k (omega (arith, b, fits)) few in
    let least = divided from x (2 ^ k) (pow_pos k) a in
    let most = divided x to (2 ^ k) (pow_pos k) b in
    (omega (arith, bottom, value, least), omega (arith, top, value, most))

pub great_right : (from to k low high : ℕ) → to < 2 ^ 64 → 2 ^ 63 ≤ from → k < 64 → low ≡ 2 ^ 64 - 1 - (2 ^ 64 - 1 - from) / 2 ^ k → high ≡ 2 ^ 64 - 1 - (2 ^ 64 - 1 - to) / 2 ^ k → IsShiftedRight from to k low high
great_right from to k low high fits great few bottom top = λ x a b.
    let value = great_value x k (omega (arith, b, fits)) (omega (arith, a, great)) few in
    let least = divided (2 ^ 64 - 1 - x) (2 ^ 64 - 1 - from) (2 ^ k) (pow_pos k) (omega (arith, a)) in
    let most = divided (2 ^ 64 - 1 - to) (2 ^ 64 - 1 - x) (2 ^ k) (pow_pos k) (omega (arith, b)) in
    (omega (arith, bottom, value, least), omega (arith, top, value, most))

-- what a shift of a range by a range of one number comes to
abbrev Shifts : AluOp → ℕ → ℕ → ℕ → ℕ → ℕ → Type 0
Shifts o from to by low high = (x : ℕ) → from ≤ x → x ≤ to → (low ≤ computed o true x by) × (computed o true x by ≤ high)

shifts_in : (o : AluOp) (from to first last low high : ℕ) → ((a : Option ℕ) (x : ℕ) → first_operand o a ≡ Some x → a ≡ Some x) → first ≡ last → Shifts o from to first low high → IsCombined o from to first last low high
shifts_in o from to first last low high reads one shifts = λ a b c k p q.
    let x : k.x ≡ p.x = some_is (sym (reads a k.x k.first) ∙ p.is) in
    let least = q.least in
    let most = q.most in
    let y : k.y ≡ first = some_is (sym k.second ∙ q.is) ∙ omega (arith, one, least, most) in
    let both = shifts p.x p.least p.most in
    let value : computed o true k.x k.y ≡ computed o true p.x first = ap (λ (x : ℕ). computed o true x k.y) x ∙ ap (computed o true p.x) y in
    record { x = computed o true p.x first; is = k.is ∙ ap Some value; least = both.0; most = both.1 }

lefts_in : (from to first last low high : ℕ) → IsShiftedLeft from to first last low high → IsCombined op.Lsh from to first last low high
lefts_in from to first last low high shifts = λ a b c k p q.
    let x : k.x ≡ p.x = some_is (sym k.first ∙ p.is) in
    let y : k.y ≡ q.x = some_is (sym k.second ∙ q.is) in
    let both = shifts p.x q.x p.least p.most q.least q.most in
    let value : computed op.Lsh true k.x k.y ≡ computed op.Lsh true p.x q.x = ap (λ (x : ℕ). computed op.Lsh true x k.y) x ∙ ap (computed op.Lsh true p.x) y in
    record { x = computed op.Lsh true p.x q.x; is = k.is ∙ ap Some value; least = both.0; most = both.1 }

pub left_if : (o : AluOp) (from to first last : ℕ) (r : Option Range) → o ≡ op.Lsh → IfSome r (λ r. IsShiftedLeft from to first last r.low r.high) → IfSome r (λ r. IsCombined o from to first last r.low r.high)
left_if o from to first last None is shifts = tt
left_if o from to first last (Some r) is shifts = subst (λ (o : AluOp). IsCombined o from to first last r.low r.high) (sym is) (lefts_in from to first last r.low r.high shifts)

pub right_if : (o : AluOp) (from to first last : ℕ) (r : Option Range) → o ≡ op.Arsh → IfSome r (λ r. (first ≡ last) × (first < 64) × IsShiftedRight from to first r.low r.high) → IfSome r (λ r. IsCombined o from to first last r.low r.high)
right_if o from to first last None is both = tt
right_if o from to first last (Some r) is both = subst (λ (o : AluOp). IsCombined o from to first last r.low r.high) (sym is) (shifts_in op.Arsh from to first last r.low r.high (λ a x e. e) both.0 both.2)
