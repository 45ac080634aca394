-- Stated: claims rest on this file.
-- What the edges of a conditional jump teach (JMP alone, and its unsigned conditions).
use Rattle.std.specs.Prelude.{ℕ, ◌+◌, ◌-◌, min, max, pos, Option, None, Some, Bool, true, false, if◌then◌else◌, ◌==◌, nat_le}
use Rattle.bpf_insn.specs.declared.condition.Condition.{Condition}
use Rattle.bpf_insn.specs.declared.condition.Condition.TheVariants.{Equal, Greater, GreaterOrEqual, NotEqual, Less, LessOrEqual}
use Rattle.bpf_insn.specs.declared.operand.Operand.{Operand}
use Rattle.bpf_insn.specs.declared.operand.Operand.TheVariants.{Immediate}
use Rattle.bpf_note.specs.declared.val.Val.{Val}
use Rattle.bpf_note.specs.declared.val.Val.TheVariants.{Num, Pkt, PktEnd, MaybeValue, Value}
use Rattle.bpf_note.specs.Facts.{Facts, with_reg, with_safe, with_each, resolved}

-- what holds if a condition doesn't
abbrev pub opposite : Condition → Option Condition
opposite Equal = Some NotEqual
opposite NotEqual = Some Equal
opposite Greater = Some LessOrEqual
opposite LessOrEqual = Some Greater
opposite GreaterOrEqual = Some Less
opposite Less = Some GreaterOrEqual
opposite cond = None

-- the greater of a safe bound and s
abbrev pub raised : Option ℕ → ℕ → Option ℕ
raised None s = Some s
raised (Some b) s = Some (max b s)

abbrev pub raise : Facts → ℕ → ℕ → Facts
raise n id s = with_safe n id (raised (n.safe id) s)

-- register k is from lo to hi; an empty range isn't refined
abbrev pub narrowed : Facts → ℕ → ℕ → ℕ → Facts
narrowed n k lo hi = if nat_le lo hi then with_reg n k (Num lo hi) else n

-- register k, which is from lo to hi, isn't c
abbrev pub without : Facts → ℕ → ℕ → ℕ → ℕ → Facts
without n k lo hi c = if c == lo then narrowed n k (lo + 1) hi else if c == hi then narrowed n k lo (hi - 1) else n

-- register k, which is from lo to hi, is below c
abbrev pub below : Facts → ℕ → ℕ → ℕ → ℕ → Facts
below n k lo hi c = if c == 0 then n else narrowed n k lo (min hi (c - 1))

-- register k, which is from lo to hi, stands in this condition to c
abbrev pub compared : Condition → Facts → ℕ → ℕ → ℕ → ℕ → Facts
compared Equal n k lo hi c = narrowed n k (max lo c) (min hi c)
compared NotEqual n k lo hi c = without n k lo hi c
compared Greater n k lo hi c = narrowed n k (max lo (c + 1)) hi
compared GreaterOrEqual n k lo hi c = narrowed n k (max lo c) hi
compared Less n k lo hi c = below n k lo hi c
compared LessOrEqual n k lo hi c = narrowed n k lo (min hi c)
compared cond n k lo hi c = n

-- an address stands in this condition to the packet's end
abbrev pub against_end : Condition → Facts → ℕ → ℕ → Facts
against_end LessOrEqual n id off = raise n id off
against_end Less n id off = raise n id (off + 1)
against_end cond n id off = n

-- the packet's end stands in this condition to an address
abbrev pub end_against : Condition → Facts → ℕ → ℕ → Facts
end_against GreaterOrEqual n id off = raise n id off
end_against Greater n id off = raise n id (off + 1)
end_against cond n id off = n

-- the operand is the constant 0 of the instruction
abbrev pub is_null : Operand → Bool
is_null (Immediate (pos c)) = c == 0
is_null operand = false

-- a lookup's result is 0, or isn't
abbrev pub checked : Condition → Facts → ℕ → ℕ → Facts
checked Equal n m id = with_each n (resolved id (Num 0 0))
checked NotEqual n m id = with_each n (resolved id (Value m))
checked cond n m id = n

-- register k, which holds v, stands in this condition to an operand, which is w
abbrev pub refined : Condition → Facts → ℕ → Operand → Val → Val → Facts
refined cond n k operand (Pkt id off) PktEnd = against_end cond n id off
refined cond n k operand PktEnd (Pkt id off) = end_against cond n id off
refined cond n k operand (Num lo hi) (Num c d) = if c == d then compared cond n k lo hi c else n
refined cond n k operand (MaybeValue m id) w = if is_null operand then checked cond n m id else n
refined cond n k operand v w = n

abbrev pub refined_if : Option Condition → Facts → ℕ → Operand → Val → Val → Facts
refined_if None n k operand v w = n
refined_if (Some cond) n k operand v w = refined cond n k operand v w

-- what is known if the jump is taken, and if it isn't; JMP32 teaches nothing
abbrev pub taken : Condition → Bool → Facts → ℕ → Operand → Val → Val → Facts
taken cond false n k operand v w = n
taken cond true n k operand v w = refined cond n k operand v w

abbrev pub passed : Condition → Bool → Facts → ℕ → Operand → Val → Val → Facts
passed cond false n k operand v w = n
passed cond true n k operand v w = refined_if (opposite cond) n k operand v w
