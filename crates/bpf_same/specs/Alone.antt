-- Stated: claims rest on this file.
-- What a program does that alone has the counters (RFC 9669, section 5.1 for loads and stores, section 5.3 for atomic additions),
-- and when two programs do the same so.
use Rattle.std.specs.Prelude.{ℕ, ◌+◌, ◌%◌, ◌^◌, ◌≡◌, ◌<◌, List, [], ◌∷◌, ◌&&◌, if◌then◌else◌, ◌==◌}
use Rattle.bpf_insn.specs.declared.insn.Insn.{Insn}
use Rattle.bpf_note.specs.Shape.{Shape}
use Rattle.bpf_note.specs.State.{State, IsStart}
use Rattle.bpf_note.specs.declared.op.Op.TheVariants.{Load, Add}
use Rattle.bpf_same.specs.Counts.{Effect, Does, Stores, StoringWalk}

-- what stands in counter j of value k of map m
abbrev pub Counters : Type 0
Counters = ℕ → ℕ → ℕ → ℕ

-- numbers of 64 bits
abbrev pub AreCounters : Counters → Type 0
AreCounters c = (m k j : ℕ) → c m k j < 2 ^ 64

-- the counters with x in one of them
abbrev pub with_counter : Counters → ℕ → ℕ → ℕ → ℕ → Counters
with_counter c m k j x n l i = if n == m && l == k && i == j then x else c n l i

-- an operation finds what stands in its counter; a store finds nothing
abbrev pub IsFound : Counters → Effect → Type 0
IsFound c (Does (Load m k j v)) = v ≡ c m k j
IsFound c (Does (Add m k j n v)) = v ≡ c m k j
IsFound c (Stores m k j v) = Unit {0}

-- what stands in the counters after it: an addition adds modulo 2 ^ 64
abbrev pub counters_after : Counters → Effect → Counters
counters_after c (Does (Load m k j v)) = c
counters_after c (Does (Add m k j n v)) = with_counter c m k j ((v + n) % 2 ^ 64)
counters_after c (Stores m k j v) = with_counter c m k j v

-- nobody else writes the counters: each effect finds what stands in them after those before it, and this is left after the last
abbrev pub FindsAndLeaves : Counters → List Effect → Counters → Type 0
FindsAndLeaves c [] d = (m k j : ℕ) → d m k j ≡ c m k j
FindsAndLeaves c (effect ∷ effects) d = IsFound c effect × FindsAndLeaves (counters_after c effect) effects d

-- a run from the state, alone from these counters: it ends with r0 and these packet bytes, and leaves these counters
pub record RunsAlone (code : List Insn) (r0 : ℕ) (bytes : List ℕ) (s : State) (c d : Counters) : Type 0 where
  pub effects : List Effect
  pub walk : StoringWalk code r0 bytes s effects
  pub leaves : FindsAndLeaves c effects d

-- from every start and all counters, alone: what the new program ends with and leaves, the old program does
abbrev pub IsSameAlone : List Shape → List Insn → List Insn → Type 0
IsSameAlone shapes old new = (s : State) → IsStart s → s.shapes ≡ shapes → (c d : Counters) → AreCounters c → (r0 : ℕ) (bytes : List ℕ) →
    RunsAlone new r0 bytes s c d → RunsAlone old r0 bytes s c d
