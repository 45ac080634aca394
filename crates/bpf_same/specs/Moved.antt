-- For proofs: no claim rests on this file.
-- When both programs do the same: by one instruction, or by accesses of one address.
use Rattle.std.specs.Prelude.{ℕ, ℤ, ◌≡◌, ◌⊎◌, Option, Some}
use Rattle.bpf_insn.specs.Register.{number}
use Rattle.bpf_insn.specs.Signed.{sign_extended}
use Rattle.bpf_insn.specs.declared.register.Register.{Register}
use Rattle.bpf_insn.specs.declared.insn.Insn.{Insn}
use Rattle.bpf_insn.specs.declared.insn.Insn.TheVariants.{Ldx, Stx, AddCounter}
use Rattle.bpf_same.specs.declared.relation.Relation.{Relation}
use Rattle.bpf_same.specs.LinearForms.{plus, Hold}
use Rattle.bpf_same.specs.Stepped.{ReadsAlike}

-- the address at an offset from a register, where terms hold these numbers (RFC 9669, section 5.1)
abbrev pub address_in : (ℕ → Option ℕ) → Register → ℤ → Option ℕ
address_in f base off = plus (f (number base)) (Some (sign_extended off))

-- a load into the same register of as many bytes, a store of the same number, or an addition of the same register, at the same address,
-- by another register or offset
abbrev pub IsMoved : Insn → Insn → (ℕ → Option ℕ) → (ℕ → Option ℕ) → Type 0
IsMoved (Ldx size signed dst src off) old f g = (base : Register) × (from : ℤ) × (old ≡ Ldx size signed dst base from) × (address_in g base from ≡ address_in f src off)
IsMoved (Stx size dst src off) old f g =
    (base : Register) × (value : Register) × (from : ℤ) × (old ≡ Stx size base value from) × (address_in g base from ≡ address_in f dst off) × (g (number value) ≡ f (number src))
IsMoved (AddCounter fetch dst src off) old f g = (base : Register) × (from : ℤ) × (old ≡ AddCounter fetch base src from) × (address_in g base from ≡ address_in f dst off) × (g (number src) ≡ f (number src))
IsMoved i old f g = ⊥

abbrev pub IsMovedAccess : Relation → Insn → Insn → Type 0
IsMovedAccess e old i = (f g : ℕ → Option ℕ) → Hold e f g → IsMoved i old f g

-- the old program's instruction is this one, and reads the same; or it is this access, moved
abbrev pub DoesAlike : Relation → Insn → Insn → Type 0
DoesAlike e old i = (old ≡ i) × ReadsAlike e i ⊎ IsMovedAccess e old i
