-- Stated: claims rest on this file.
-- The structure of a program: where its jumps land, what follows its instructions, which maps it names.
use Rattle.std.specs.Prelude.{ℕ, ℤ, List, length, Option, None, Some, Bool, true, false, not, is_none, if◌then◌else◌, nat_lt}
use Rattle.std.specs.Prelude.{nat_le, slice_get}
use Rattle.bpf_insn.specs.declared.insn.Insn.{Insn}
use Rattle.bpf_insn.specs.declared.insn.Insn.TheVariants.{MapRef, Ja, Jump, Exit, Second}
use Rattle.bpf_flow.specs.Step.{target}
use Rattle.bpf_flow.specs.Graph.{next_slot}

-- the offset of a jump
abbrev pub jump_of : Insn → Option ℤ
jump_of (Ja wide_offset to) = Some to
jump_of (Jump cond wide dst src off) = Some off
jump_of i = None

-- the slot holds an instruction: it is there, and no second half of a wide load
abbrev pub begins : Option Insn → Bool
begins None = false
begins (Some Second) = false
begins (Some i) = true

-- the slot, if an instruction stands there
abbrev pub landing : List Insn → Option ℕ → Option ℕ
landing code None = None
landing code (Some q) = if begins (slice_get code q) then Some q else None

-- a jump whose target is no instruction of the program
abbrev pub misses_target : List Insn → ℕ → Option ℤ → Bool
misses_target code pc None = false
misses_target code pc (Some off) = is_none (landing code (target pc off))

-- after EXIT and JA nothing follows, and a second half is no instruction
abbrev pub falls_through : Insn → Bool
falls_through (Ja wide_offset to) = false
falls_through Exit = false
falls_through Second = false
falls_through i = true

-- the next slot is past the end
abbrev pub runs_off : List Insn → ℕ → Insn → Bool
runs_off code pc i = if falls_through i then not (nat_lt (next_slot i pc) (length code)) else false

-- a map that isn't there
abbrev pub lacks_map : ℕ → Insn → Bool
lacks_map maps (MapRef dst m) = nat_le maps m
lacks_map maps i = false
