-- Stated: claims rest on this file.
-- When the answer for an instruction accounts for all that the instruction does.
use Rattle.std.specs.Prelude.{ℕ, ◌^◌, ◌<◌, ◌≡◌, [], ◌∷◌, ◌⊎◌}
use Rattle.bpf_insn.specs.declared.insn.Insn.{Insn}
use Rattle.bpf_insn.specs.declared.insn.Insn.TheVariants.{Const}
use Rattle.bpf_note.specs.State.{State}
use Rattle.bpf_note.specs.Describes.{Describes}
use Rattle.bpf_flow.specs.Step.{Outcome, Next, Loads, Adds, Exited, Fault}
use Rattle.bpf_flow.specs.Edges.{Edges}

-- an edge leads to the state's slot, and what is known there describes the state
abbrev pub Covers : Edges → State → Type 0
Covers [] s = ⊥
Covers (e ∷ es) s = ((s.pc ≡ e.0) × Describes e.1 s) ⊎ Covers es s

-- the step is an exit, or leads to a state that an edge covers, whatever a counter answers
abbrev pub Accounts : Edges → Outcome → Type 0
Accounts es (Next t) = Covers es t
Accounts es (Loads m k j go) = (x : ℕ) → x < 2 ^ 64 → Covers es (go x)
Accounts es (Adds m k j delta go) = (x : ℕ) → x < 2 ^ 64 → Covers es (go x)
Accounts es (Exited x) = Unit {0}
Accounts es Fault = ⊥

-- an instruction's constant has 64 bits
abbrev pub HasWords : Insn → Type 0
HasWords (Const dst value) = value < 2 ^ 64
HasWords i = Unit {0}
