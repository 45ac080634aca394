-- The results of the operations fit 64 bits.
use Rattle.std.proofs.Common.{ℕ, ◌+◌, ◌-◌, ◌*◌, ◌/◌, ◌%◌, ◌<◌, ◌^◌, Bool, true, false, arith, ℤ, pos, negsuc}
use Rattle.std.specs.Prelude.{if◌then◌else◌, nat_eq, int_div, int_rem}
use Rattle.std.proofs.Math.Nat.{div-le_self, mod-le}
use Rattle.std.proofs.lemmas.Nat.{and_le_l, or_lt, xor_lt}
use Rattle.bpf_insn.specs.Arithmetic.{computed, negated, operation}
use Rattle.bpf_insn.specs.ByteOrder.{swapped}
use Rattle.bpf_insn.specs.Extension.{extended, moved_extended}
use Rattle.bpf_insn.specs.Signed.{signed_reading, modulo, sign_extended}
use Rattle.bpf_insn.specs.declared.alu_op.AluOp.{AluOp}
use Rattle.bpf_insn.specs.declared.alu_op.AluOp.TheVariants.{Add, Sub, Mul, Div, SignedDiv, Or, And, Lsh, Rsh, Mod, SignedMod, Xor, Mov, Arsh}
use Rattle.bpf_insn.specs.declared.size.Size.{Size}
use Rattle.bpf_insn.specs.declared.swap_kind.SwapKind.{SwapKind}
use Rattle.bpf_insn.specs.declared.swap_kind.SwapKind.TheVariants.{ToLittle, ToBig, Swap}
use Rattle.bpf_insn.specs.declared.width.Width.{Width}
use Rattle.bpf_insn.specs.declared.width.Width.TheVariants.{Bits16, Bits32, Bits64}

modulo_64 : (z : ℤ) → modulo (2 ^ 64) z < 2 ^ 64
modulo_64 (pos n) = omega arith
modulo_64 (negsuc n) = omega arith

sign_64 : (z : ℤ) → sign_extended z < 2 ^ 64
sign_64 (pos n) = omega arith
sign_64 (negsuc n) = omega arith

modulo_32 : (z : ℤ) → modulo (2 ^ 32) z < 2 ^ 32
modulo_32 (pos n) = omega arith
modulo_32 (negsuc n) = omega arith

choice : (b : Bool) (x y m : ℕ) → x < m → y < m → (if b then x else y) < m
choice true x y m p q = p
choice false x y m p q = q

below_quotient : (a b : ℕ) {m : ℕ} → a < m → a / b < m
below_quotient a b p = omega (arith, div-le_self a b)

mod_64 : (n : ℕ) → n % 2 ^ 64 < 2 ^ 64
mod_64 n = omega arith

fits_64 : (op : AluOp) (a b : ℕ) → a < 2 ^ 64 → b < 2 ^ 64 → operation op (2 ^ 64) 64 a b < 2 ^ 64
fits_64 Add a b p q = mod_64 (a + b)
fits_64 Sub a b p q = mod_64 (a + (2 ^ 64 - b))
fits_64 Mul a b p q = mod_64 (a * b)
fits_64 Div a b p q = choice (nat_eq b 0) 0 (a / b) (2 ^ 64) (omega arith) (below_quotient a b p)
fits_64 SignedDiv a b p q = choice (nat_eq b 0) 0 (modulo (2 ^ 64) (int_div (signed_reading (2 ^ 64) a) (signed_reading (2 ^ 64) b))) (2 ^ 64) (omega arith) (modulo_64 _)
fits_64 Or a b p q = or_lt 64 a b p q
fits_64 And a b p q = omega (arith, and_le_l a b)
fits_64 Lsh a b p q = mod_64 (a * 2 ^ (b % 64))
fits_64 Rsh a b p q = omega (arith, div-le_self a (2 ^ (b % 64)))
fits_64 Mod a b p q = choice (nat_eq b 0) a (a % b) (2 ^ 64) p (omega (arith, mod-le a b))
fits_64 SignedMod a b p q = choice (nat_eq b 0) a (modulo (2 ^ 64) (int_rem (signed_reading (2 ^ 64) a) (signed_reading (2 ^ 64) b))) (2 ^ 64) p (modulo_64 _)
fits_64 Xor a b p q = xor_lt 64 a b p q
fits_64 Mov a b p q = q
fits_64 Arsh a b p q = modulo_64 _

mod_32 : (n : ℕ) → n % 2 ^ 32 < 2 ^ 32
mod_32 n = omega arith

fits_32 : (op : AluOp) (a b : ℕ) → a < 2 ^ 32 → b < 2 ^ 32 → operation op (2 ^ 32) 32 a b < 2 ^ 32
fits_32 Add a b p q = mod_32 (a + b)
fits_32 Sub a b p q = mod_32 (a + (2 ^ 32 - b))
fits_32 Mul a b p q = mod_32 (a * b)
fits_32 Div a b p q = choice (nat_eq b 0) 0 (a / b) (2 ^ 32) (omega arith) (below_quotient a b p)
fits_32 SignedDiv a b p q = choice (nat_eq b 0) 0 (modulo (2 ^ 32) (int_div (signed_reading (2 ^ 32) a) (signed_reading (2 ^ 32) b))) (2 ^ 32) (omega arith) (modulo_32 _)
fits_32 Or a b p q = or_lt 32 a b p q
fits_32 And a b p q = omega (arith, and_le_l a b)
fits_32 Lsh a b p q = mod_32 (a * 2 ^ (b % 32))
fits_32 Rsh a b p q = omega (arith, div-le_self a (2 ^ (b % 32)))
fits_32 Mod a b p q = choice (nat_eq b 0) a (a % b) (2 ^ 32) p (omega (arith, mod-le a b))
fits_32 SignedMod a b p q = choice (nat_eq b 0) a (modulo (2 ^ 32) (int_rem (signed_reading (2 ^ 32) a) (signed_reading (2 ^ 32) b))) (2 ^ 32) p (modulo_32 _)
fits_32 Xor a b p q = xor_lt 32 a b p q
fits_32 Mov a b p q = q
fits_32 Arsh a b p q = modulo_32 _

pub negated_fits : (wide : Bool) (a : ℕ) → negated wide a < 2 ^ 64
unfolding negated
negated_fits true a = omega arith
negated_fits false a = omega arith

pub extended_fits : (size : Size) (a : ℕ) → extended size a < 2 ^ 64
unfolding extended
extended_fits size a = sign_64 _

pub moved_extended_fits : (wide : Bool) (size : Size) (a : ℕ) → moved_extended wide size a < 2 ^ 64
unfolding moved_extended
moved_extended_fits true size a = extended_fits size a
moved_extended_fits false size a = omega arith

pub swapped_fits : (kind : SwapKind) (width : Width) (a : ℕ) → swapped kind width a < 2 ^ 64
unfolding swapped
swapped_fits ToLittle Bits16 a = omega arith
swapped_fits ToLittle Bits32 a = omega arith
swapped_fits ToLittle Bits64 a = omega arith
swapped_fits ToBig Bits16 a = omega arith
swapped_fits ToBig Bits32 a = omega arith
swapped_fits ToBig Bits64 a = omega arith
swapped_fits Swap Bits16 a = omega arith
swapped_fits Swap Bits32 a = omega arith
swapped_fits Swap Bits64 a = omega arith

-- without 64 bits the low half alone
pub low_computed_fits : (op : AluOp) (a b : ℕ) → computed op false a b < 2 ^ 32
unfolding computed
low_computed_fits op a b = fits_32 op (a % 2 ^ 32) (b % 2 ^ 32) (mod_32 a) (mod_32 b)

pub low_negated_fits : (a : ℕ) → negated false a < 2 ^ 32
unfolding negated
low_negated_fits a = omega arith

pub low_moved_extended_fits : (size : Size) (a : ℕ) → moved_extended false size a < 2 ^ 32
unfolding moved_extended
low_moved_extended_fits size a = omega arith

-- a swap keeps 2, 4 or 8 bytes
pub swapped_16 : (kind : SwapKind) (a : ℕ) → swapped kind Bits16 a < 2 ^ 16
unfolding swapped
swapped_16 ToLittle a = omega arith
swapped_16 ToBig a = omega arith
swapped_16 Swap a = omega arith

pub swapped_32 : (kind : SwapKind) (a : ℕ) → swapped kind Bits32 a < 2 ^ 32
unfolding swapped
swapped_32 ToLittle a = omega arith
swapped_32 ToBig a = omega arith
swapped_32 Swap a = omega arith

pub computed_fits : (op : AluOp) (wide : Bool) (a b : ℕ) → computed op wide a b < 2 ^ 64
unfolding computed
computed_fits op true a b = fits_64 op (a % 2 ^ 64) (b % 2 ^ 64) (mod_64 a) (mod_64 b)
computed_fits op false a b =
    let low : operation op (2 ^ 32) 32 (a % 2 ^ 32) (b % 2 ^ 32) < 2 ^ 32 = fits_32 op (a % 2 ^ 32) (b % 2 ^ 32) (mod_32 a) (mod_32 b) in
    omega arith
