-- For proofs: no claim rests on this file.
-- Marks on slots, and a search that is under way.
use Rattle.std.specs.Prelude.{ℕ, ◌+◌, ◌≡◌, ◌≤◌, ◌⊎◌, List, length, Option, Some, Bool, true, false, not, slice_index_or, count_by, Contains}
use Rattle.bpf_insn.specs.declared.insn.Insn.{Insn}
use Rattle.bpf_verify.specs.Structure.{begins}
use Rattle.bpf_verify.specs.Paths.{Reaches}

-- the slot is no second half of a wide load
unfoldable pub is_instruction : Insn → Bool
is_instruction i = begins (Some i)

-- whether slot q is marked
abbrev pub marked : List Bool → ℕ → Bool
marked marks q = slice_index_or marks q false

-- how many slots aren't marked, or wait on the pile
abbrev pub open_work : List Bool → List ℕ → ℕ
open_work marks pile = count_by not marks + length pile

-- one slot is marked and nothing else, and what is newly marked is on the pile
pub record Adds (marks : List Bool) (pile : List ℕ) (to : Option ℕ) (marks' : List Bool) (pile' : List ℕ) : Type 0 where
  pub kept : (q : ℕ) → marked marks q ≡ true → marked marks' q ≡ true
  pub added : (q : ℕ) → to ≡ Some q → marked marks' q ≡ true
  pub only : (q : ℕ) → marked marks' q ≡ true → (marked marks q ≡ true) ⊎ (to ≡ Some q)
  pub piled : (q : ℕ) → marked marks' q ≡ true → (marked marks q ≡ true) ⊎ Contains pile' q
  pub stays : (q : ℕ) → Contains pile q → Contains pile' q
  pub pile_only : (q : ℕ) → Contains pile' q → Contains pile q ⊎ (to ≡ Some q)

-- what is marked is reached, and each edge from it leads to a marked slot unless it is still on the pile
pub record IsExplored (Edge : ℕ → ℕ → Type 0) (from : ℕ) (marks : List Bool) (pile : List ℕ) : Type 0 where
  pub first : marked marks from ≡ true
  pub sound : (q : ℕ) → marked marks q ≡ true → Reaches Edge from q
  pub piled : (q : ℕ) → Contains pile q → marked marks q ≡ true
  pub closed : (p q : ℕ) → marked marks p ≡ true → Edge p q → Contains pile p ⊎ (marked marks q ≡ true)

-- what wasn't taken of the slots marked at the start, each with a predecessor among them
pub record IsLeft (Edge : ℕ → ℕ → Type 0) (start : List Bool) (taken : List ℕ) (left : List Bool) : Type 0 where
  pub len : length left ≡ length start
  pub kept : (q : ℕ) → marked left q ≡ true → (marked start q ≡ true) × (Contains taken q → ⊥)
  pub size : length taken ≤ count_by (λ b. b) start
  pub rest : (q : ℕ) → marked start q ≡ true → Contains taken q ⊎ (marked left q ≡ true)
  pub waits : (q : ℕ) → marked left q ≡ true → (p : ℕ) × (marked left p ≡ true) × Edge p q
