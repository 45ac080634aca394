-- For proofs: no claim rests on this file.
-- Programs in which no jump goes back.
use Rattle.std.specs.Prelude.{ℕ, ℤ, pos, negsuc, ◌≡◌, List, Option, None, Some, Bool, true, false, slice_get}
use Rattle.bpf_insn.specs.declared.insn.Insn.{Insn}
use Rattle.bpf_verify.specs.Structure.{jump_of}

abbrev pub is_negative : Option ℤ → Bool
is_negative None = false
is_negative (Some (pos n)) = false
is_negative (Some (negsuc n)) = true

-- a jump whose offset is negative
abbrev pub goes_back : Insn → Bool
goes_back i = is_negative (jump_of i)

-- no jump has a negative offset
abbrev pub IsRising : List Insn → Type 0
IsRising code = (pc : ℕ) (i : Insn) → slice_get code pc ≡ Some i → goes_back i ≡ false
