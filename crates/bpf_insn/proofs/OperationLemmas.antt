-- What the machine's operators do to signed readings.
use Rattle.std.proofs.Common.{◌≡◌, ◌≢◌, ℕ, zero, suc, ◌-◌, ◌/◌, ◌%◌, ◌<◌, ◌≤◌, ◌^◌, refl, true, false, ◌∙◌, arith, ℤ, pos, negsuc}
use Rattle.std.specs.Prelude.{int_div, unsigned_abs, neg_ℤ, nat_eq}
use Rattle.std.specs.Int.{cast_unsigned, cast_signed, int_wrapping_div, w32, w64}
use Rattle.std.proofs.lemmas.Int.{ints, of_z-to_z}
use Rattle.std.proofs.lemmas.Bool.Decides.{nat_tests}
use Rattle.std.proofs.Math.Nat.{div-le_self}
use Rattle.bpf_insn.specs.Signed.{signed_reading, modulo}
use Rattle.bpf_insn.specs.Arithmetic.{computed}
use Rattle.bpf_insn.specs.Conditions.{is_met}
use Rattle.bpf_insn.specs.declared.alu_op.AluOp.{AluOp}
use Rattle.bpf_insn.specs.declared.alu_op.AluOp.TheVariants.{SignedDiv}
use Rattle.bpf_insn.specs.declared.condition.Condition.{Condition}

abs_neg : (n : ℕ) → unsigned_abs (neg_ℤ (pos n)) ≡ n
abs_neg zero = refl
abs_neg (suc n) = refl

abs_quotient : (x y : ℤ) → unsigned_abs (int_div x y) ≤ unsigned_abs x
abs_quotient (pos a) (pos b) = div-le_self a b
abs_quotient (pos a) (negsuc b) = omega (arith, abs_neg (a / suc b), div-le_self a (suc b))
abs_quotient (negsuc a) (pos b) = omega (arith, abs_neg (suc a / b), div-le_self (suc a) b)
abs_quotient (negsuc a) (negsuc b) = div-le_self (suc a) (suc b)

through_64 : (z : ℤ) → unsigned_abs z ≤ 2 ^ 63 → cast_unsigned w64 (cast_signed w64 (cast_unsigned w64 z)) ≡ modulo (2 ^ 64) z
through_64 (pos n) h = of_z-to_z w64 n (omega arith) ∙ omega arith
through_64 (negsuc n) h = of_z-to_z w64 (2 ^ 64 - suc n) (omega arith) ∙ omega arith

through_32 : (z : ℤ) → unsigned_abs z ≤ 2 ^ 31 → cast_unsigned w32 (cast_signed w32 (cast_unsigned w32 z)) ≡ modulo (2 ^ 32) z
through_32 (pos n) h = of_z-to_z w32 n (omega arith) ∙ omega arith
through_32 (negsuc n) h = of_z-to_z w32 (2 ^ 32 - suc n) (omega arith) ∙ omega arith

abs_small_64 : (n : ℕ) → n < 2 ^ 64 → unsigned_abs (cast_signed w64 n) ≤ 2 ^ 63
abs_small_64 n h = grind (arith, ints)

abs_small_32 : (n : ℕ) → n < 2 ^ 32 → unsigned_abs (cast_signed w32 n) ≤ 2 ^ 31
abs_small_32 n h = grind (arith, ints)

reading_64 : (n : ℕ) → n < 2 ^ 64 → cast_signed w64 n ≡ signed_reading (2 ^ 64) (n % 2 ^ 64)
reading_64 n h = grind (arith, ints, nat_tests)

reading_32 : (n : ℕ) → n < 2 ^ 32 → cast_signed w32 n ≡ signed_reading (2 ^ 32) (n % 2 ^ 32)
reading_32 n h = grind (arith, ints, nat_tests)

pub quotient_64 : (a b : ℕ) → a < 2 ^ 64 → b < 2 ^ 64 → b ≢ 0 → cast_unsigned w64 (int_wrapping_div w64 (cast_signed w64 a) (cast_signed w64 b)) ≡ computed SignedDiv true a b
unfolding computed
quotient_64 a b la lb n =
    let t : nat_eq (b % 2 ^ 64) 0 ≡ false = grind (arith, nat_tests) in
    let z : ℤ = int_div (cast_signed w64 a) (cast_signed w64 b) in
    let small : unsigned_abs z ≤ 2 ^ 63 = omega (arith, abs_quotient (cast_signed w64 a) (cast_signed w64 b), abs_small_64 a la) in
    let x : cast_signed w64 a ≡ signed_reading (2 ^ 64) (a % 2 ^ 64) = reading_64 a la in
    let y : cast_signed w64 b ≡ signed_reading (2 ^ 64) (b % 2 ^ 64) = reading_64 b lb in
    let e : modulo (2 ^ 64) z ≡ modulo (2 ^ 64) (int_div (signed_reading (2 ^ 64) (a % 2 ^ 64)) (signed_reading (2 ^ 64) (b % 2 ^ 64))) = cc in
    rw t (through_64 z small ∙ e)

pub quotient_32 : (a b : ℕ) → a < 2 ^ 32 → b < 2 ^ 32 → b ≢ 0 → cast_unsigned w32 (int_wrapping_div w32 (cast_signed w32 a) (cast_signed w32 b)) ≡ computed SignedDiv false a b
unfolding computed
quotient_32 a b la lb n =
    let t : nat_eq (b % 2 ^ 32) 0 ≡ false = grind (arith, nat_tests) in
    let z : ℤ = int_div (cast_signed w32 a) (cast_signed w32 b) in
    let small : unsigned_abs z ≤ 2 ^ 31 = omega (arith, abs_quotient (cast_signed w32 a) (cast_signed w32 b), abs_small_32 a la) in
    let x : cast_signed w32 a ≡ signed_reading (2 ^ 32) (a % 2 ^ 32) = reading_32 a la in
    let y : cast_signed w32 b ≡ signed_reading (2 ^ 32) (b % 2 ^ 32) = reading_32 b lb in
    let e : modulo (2 ^ 32) z ≡ modulo (2 ^ 32) (int_div (signed_reading (2 ^ 32) (a % 2 ^ 32)) (signed_reading (2 ^ 32) (b % 2 ^ 32))) = cc in
    rw t (through_32 z small ∙ e)

pub is_met_low : (cond : Condition) (a b : ℕ) → is_met cond false (a % 2 ^ 32) (b % 2 ^ 32) ≡ is_met cond false a b
unfolding is_met
is_met_low cond a b =
    let x : (a % 2 ^ 32) % 2 ^ 32 ≡ a % 2 ^ 32 = omega arith in
    let y : (b % 2 ^ 32) % 2 ^ 32 ≡ b % 2 ^ 32 = omega arith in
    rw (x, y) refl

pub computed_low : (op : AluOp) (a b : ℕ) → computed op false (a % 2 ^ 32) (b % 2 ^ 32) ≡ computed op false a b
unfolding computed
computed_low op a b =
    let x : (a % 2 ^ 32) % 2 ^ 32 ≡ a % 2 ^ 32 = omega arith in
    let y : (b % 2 ^ 32) % 2 ^ 32 ≡ b % 2 ^ 32 = omega arith in
    rw (x, y) refl
