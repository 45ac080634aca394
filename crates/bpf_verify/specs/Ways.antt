-- For proofs: no claim rests on this file.
-- The two edges that an instruction may have, as the search of the flow graph finds them.
use Rattle.std.specs.Prelude.{ℕ, ℤ, List, Option, None, Some, if◌then◌else◌, slice_get}
use Rattle.bpf_insn.specs.declared.insn.Insn.{Insn}
use Rattle.bpf_flow.specs.Step.{target}
use Rattle.bpf_flow.specs.Graph.{next_slot}
use Rattle.bpf_verify.specs.Structure.{landing, jump_of, falls_through}

abbrev pub target_by : ℕ → Option ℤ → Option ℕ
target_by p None = None
target_by p (Some off) = target p off

abbrev pub fall_by : List Insn → ℕ → Option Insn → Option ℕ
fall_by code p None = None
fall_by code p (Some i) = if falls_through i then landing code (Some (next_slot i p)) else None

abbrev pub jump_by : List Insn → ℕ → Option Insn → Option ℕ
jump_by code p None = None
jump_by code p (Some i) = landing code (target_by p (jump_of i))

-- the instruction that follows the one at p
unfoldable pub fall_to : List Insn → ℕ → Option ℕ
fall_to code p = fall_by code p (slice_get code p)

-- the instruction to which the one at p jumps
unfoldable pub jump_to : List Insn → ℕ → Option ℕ
jump_to code p = jump_by code p (slice_get code p)
