-- Arithmetic: what is computed reads as what the rule makes of the operands.
use Rattle.std.proofs.Common.{◌≡◌, ℕ, ◌+◌, ◌-◌, ◌*◌, ◌%◌, ◌^◌, ◌<◌, ◌≤◌, ◌⊎◌, inl, inr, Bool, true, false, ◌&&◌, refl, nat_lt, sym, ap, ◌∙◌, arith, ℤ, pos, negsuc, ◌+ℤ◌}
use Rattle.std.specs.Prelude.{if◌then◌else◌, nat_le, int_le, ◌-ℤ◌, ◌≤ℤ◌}
use Rattle.std.proofs.lemmas.Bool.Decides.{nat_tests}
use Rattle.std.proofs.lemmas.Int.{ints}
use Rattle.bpf_insn.specs.Arithmetic.{computed}
use Rattle.bpf_insn.specs.declared.alu_op.AluOp.TheVariants.{Add, Sub}
use Rattle.bpf_note.specs.declared.val.Val.TheVariants.{Pkt, Stack}
use Rattle.bpf_note.specs.State.{packet_start, stack_end}
use Rattle.bpf_note.specs.Facts.{full}
use Rattle.bpf_note.specs.Describes.{Meaning, IsReading}
use Rattle.bpf_flow.specs.Alu.{signed, packet_at, stack_at}
use Rattle.bpf_flow.proofs.IdLemmas.{full_reads}

-- sums and differences modulo 2 ^ 64
pub sum_is : (a b : ℕ) → computed Add true a b ≡ (a + b) % 2 ^ 64
unfolding computed
sum_is a b = omega arith

difference_is : (a b : ℕ) → computed Sub true a b ≡ (a + (2 ^ 64 - b % 2 ^ 64)) % 2 ^ 64
unfolding computed
difference_is a b = omega arith

-- a number of 64 bits and its signed reading
pub signed_is : (c : ℕ) → c < 2 ^ 64 → (signed c ≡ pos c) ⊎ ((2 ^ 63 ≤ c) × (signed c ≡ pos c -ℤ pos (2 ^ 64)))
signed_is c h = by (nat_lt (2 * c) (2 ^ 64)) refl
  where
    by : (b : Bool) → b ≡ nat_lt (2 * c) (2 ^ 64) → ((if b then pos c else (pos c -ℤ pos (2 ^ 64))) ≡ pos c) ⊎ ((2 ^ 63 ≤ c) × ((if b then pos c else (pos c -ℤ pos (2 ^ 64))) ≡ pos c -ℤ pos (2 ^ 64)))
    by true e = inl refl
    by false e = inr (grind (arith, nat_tests), refl)

-- a number and a constant, by the constant's signed reading
pub sum_signed : (x c p : ℕ) → x < 2 ^ 64 → c < 2 ^ 64 → p < 2 ^ 64 → pos x +ℤ signed c ≡ pos p → computed Add true x c ≡ p
sum_signed x c p fx fc fp e = sum_is x c ∙ elim (signed_is c fc) [
  | inl s ↦ let t : pos x +ℤ pos c ≡ pos p = ap (λ (z : ℤ). pos x +ℤ z) (sym s) ∙ e in let u : x + c ≡ p = omega (arith, ints, t) in omega arith
  | inr s ↦ let t : pos x +ℤ (pos c -ℤ pos (2 ^ 64)) ≡ pos p = ap (λ (z : ℤ). pos x +ℤ z) (sym s.1) ∙ e in let u : x + c ≡ p + 2 ^ 64 = omega (arith, ints, t) in omega arith
]

pub difference_signed : (x c p : ℕ) → x < 2 ^ 64 → c < 2 ^ 64 → p < 2 ^ 64 → pos x -ℤ signed c ≡ pos p → computed Sub true x c ≡ p
difference_signed x c p fx fc fp e = difference_is x c ∙ elim (signed_is c fc) [
  | inl s ↦ let t : pos x -ℤ pos c ≡ pos p = ap (λ (z : ℤ). pos x -ℤ z) (sym s) ∙ e in let u : x ≡ p + c = omega (arith, ints, t) in omega arith
  | inr s ↦ let t : pos x -ℤ (pos c -ℤ pos (2 ^ 64)) ≡ pos p = ap (λ (z : ℤ). pos x -ℤ z) (sym s.1) ∙ e in let u : x + 2 ^ 64 ≡ p + c = omega (arith, ints, t) in omega arith
]

packet_chosen : (w : Meaning) (id o r : ℕ) (b : Bool) → b ≡ nat_le o 65535 → r < 2 ^ 64 → (o ≤ 65535 → r ≡ packet_start + w.base id + o) → IsReading w (if b then Pkt id o else full) r
packet_chosen w id o r true e fits h = let small : o ≤ 65535 = grind (arith, nat_tests) in (h small, small)
packet_chosen w id o r false e fits h = full_reads w r fits

-- a pointer into the packet that was moved
pub packet_at_reads : (w : Meaning) (id : ℕ) (z : ℤ) (r : ℕ) → r < 2 ^ 64 → ((o : ℕ) → z ≡ pos o → o ≤ 65535 → r ≡ packet_start + w.base id + o) → IsReading w (packet_at id z) r
packet_at_reads w id (pos o) r fits h = packet_chosen w id o r (nat_le o 65535) refl fits (λ small. h o refl small)
packet_at_reads w id (negsuc m) r fits h = full_reads w r fits

in_stack : (z : ℤ) → (int_le (negsuc 511) z && int_le z (pos 0)) ≡ true → (negsuc 511 ≤ℤ z) × (z ≤ℤ pos 0)
in_stack (pos n) e = grind (arith, nat_tests)
in_stack (negsuc n) e = grind (arith, nat_tests)

stack_chosen : (w : Meaning) (z : ℤ) (r : ℕ) (b : Bool) → b ≡ (int_le (negsuc 511) z && int_le z (pos 0)) → r < 2 ^ 64 → (negsuc 511 ≤ℤ z → z ≤ℤ pos 0 → pos r ≡ pos stack_end +ℤ z) → IsReading w (if b then Stack z else full) r
stack_chosen w z r true e fits h = let i = in_stack z (sym e) in (h i.0 i.1, i.0, i.1)
stack_chosen w z r false e fits h = full_reads w r fits

-- a pointer into the stack that was moved
pub stack_at_reads : (w : Meaning) (z : ℤ) (r : ℕ) → r < 2 ^ 64 → (negsuc 511 ≤ℤ z → z ≤ℤ pos 0 → pos r ≡ pos stack_end +ℤ z) → IsReading w (stack_at z) r
stack_at_reads w z r fits h = stack_chosen w z r (int_le (negsuc 511) z && int_le z (pos 0)) refl fits h
