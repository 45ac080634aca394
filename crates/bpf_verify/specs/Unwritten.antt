-- Stated: claims rest on this file.
-- Paths in the flow graph from the first slot.
use Rattle.std.specs.Prelude.{ℕ, ◌≡◌, List, None, Some, true, false, slice_get}
use Rattle.bpf_insn.specs.declared.insn.Insn.{Insn}
use Rattle.bpf_flow.specs.Graph.{Leads, writes, loses}
use Rattle.bpf_note.specs.State.{start_register}

-- a path leads to the slot
pub data Reached (code : List Insn) : ℕ → Type 0 where
  start : Reached code 0
  along : (p q : ℕ) (i : Insn) → Reached code p → slice_get code p ≡ Some i → Leads i p q → Reached code q

-- a path leads to the slot on which register k isn't written since the start, or since a call that loses it;
-- r1 and r10 count as written at the start
pub data Unwritten (code : List Insn) (k : ℕ) : ℕ → Type 0 where
  never : start_register k ≡ None → Unwritten code k 0
  later : (p q : ℕ) (i : Insn) → Unwritten code k p → slice_get code p ≡ Some i → writes i k ≡ false → Leads i p q → Unwritten code k q
  lost : (p q : ℕ) (i : Insn) → Reached code p → slice_get code p ≡ Some i → loses i k ≡ true → Leads i p q → Unwritten code k q
