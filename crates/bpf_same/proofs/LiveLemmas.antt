-- Masks of registers.
use Rattle.std.proofs.Common.{ℕ, ◌*◌, ◌%◌, ◌^◌, ◌≡◌, ◌≢◌, ◌<◌, ◌⊎◌, inl, inr, refl, sym, ◌∙◌, subst, arith, bit_and, bit_or, List, [], ◌∷◌, w64}
use Rattle.std.specs.Prelude.{slice_index_or}
use Rattle.std.specs.Int.{bit_not}
use Rattle.std.proofs.lemmas.Bool.{cases_eq}
use Rattle.std.proofs.lemmas.Nat.Bits.{bit_at_set_other, bit_at_clear_same, bit_at_clear_other}
use Rattle.bpf_insn.specs.Register.{number}
use Rattle.bpf_insn.specs.declared.register.Register.{Register}
use Rattle.bpf_insn.specs.declared.register.Register.TheVariants.{R0, R1, R2, R3, R4, R5, R6, R7, R8, R9, R10}
use Rattle.bpf_same.specs.LinearForms.{bit}

pub with_is : (mask r k : ℕ) → r < 64 → bit (bit_or mask (1 * 2 ^ r % 2 ^ 64)) k ≡ 1 → (k ≡ r) ⊎ (bit mask k ≡ 1)
with_is mask r k l e = elim (cases_eq k r) [
  | inl same ↦ inl same
  | inr other ↦ inr (sym (bit_at_set_other w64 mask r l k other) ∙ e)
]

pub without_others : (mask r k : ℕ) → r < 64 → k < 64 → bit (bit_and mask (bit_not w64 (1 * 2 ^ r % 2 ^ 64))) k ≡ 1 → bit mask k ≡ 1
without_others mask r k l m e = elim (cases_eq k r) [
  | inl same ↦ absurd (let gone : bit (bit_and mask (bit_not w64 (1 * 2 ^ r % 2 ^ 64))) r ≡ 0 = bit_at_clear_same w64 mask r l in
      let here : bit (bit_and mask (bit_not w64 (1 * 2 ^ r % 2 ^ 64))) r ≡ 1 = subst (λ (k : ℕ). bit (bit_and mask (bit_not w64 (1 * 2 ^ r % 2 ^ 64))) k ≡ 1) same e in
      omega (arith, gone, here))
  | inr other ↦ sym (bit_at_clear_other w64 mask r l k m other) ∙ e
]

pub without_gone : (mask r k : ℕ) → r < 64 → bit (bit_and mask (bit_not w64 (1 * 2 ^ r % 2 ^ 64))) k ≡ 1 → k ≢ r
without_gone mask r k l e = λ same.
    let gone : bit (bit_and mask (bit_not w64 (1 * 2 ^ r % 2 ^ 64))) r ≡ 0 = bit_at_clear_same w64 mask r l in
    let here : bit (bit_and mask (bit_not w64 (1 * 2 ^ r % 2 ^ 64))) r ≡ 1 = subst (λ (k : ℕ). bit (bit_and mask (bit_not w64 (1 * 2 ^ r % 2 ^ 64))) k ≡ 1) same e in
    omega (arith, gone, here)

-- the registers by their numbers
abbrev pub registers : List Register
registers = R0 ∷ R1 ∷ R2 ∷ R3 ∷ R4 ∷ R5 ∷ R6 ∷ R7 ∷ R8 ∷ R9 ∷ R10 ∷ []

pub register_at : (d r : Register) → slice_index_or registers (number r) d ≡ r
register_at d R0 = refl
register_at d R1 = refl
register_at d R2 = refl
register_at d R3 = refl
register_at d R4 = refl
register_at d R5 = refl
register_at d R6 = refl
register_at d R7 = refl
register_at d R8 = refl
register_at d R9 = refl
register_at d R10 = refl
