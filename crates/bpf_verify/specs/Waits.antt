-- For proofs: no claim rests on this file.
-- How many edges lead to a slot from slots that aren't taken.
use Rattle.std.specs.Prelude.{ℕ, zero, suc, ◌+◌, ◌≡◌, ◌<◌, ◌⊎◌, List, length, Option, None, Some, Bool, true, if◌then◌else◌, ◌==◌}
use Rattle.std.specs.Prelude.{slice_index, Contains, count_by}
use Rattle.bpf_insn.specs.declared.insn.Insn.{Insn}
use Rattle.bpf_verify.specs.Edges.{Edge}
use Rattle.bpf_verify.specs.Ways.{fall_to, jump_to}
use Rattle.bpf_verify.specs.Marks.{marked}
use Rattle.bpf_verify.specs.Orders.{Takes}

-- 1 if it is q
abbrev pub one : Option ℕ → ℕ → ℕ
one None q = 0
one (Some t) q = if t == q then 1 else 0

-- how often the instruction at p leads to q
unfoldable pub hits : List Insn → ℕ → ℕ → ℕ
hits code p q = one (fall_to code p) q + one (jump_to code p) q

-- how often the live slots below k lead to q
abbrev pub into : List Insn → (ℕ → Bool) → ℕ → ℕ → ℕ
into code live zero q = 0
into code live (suc k) q = into code live k q + (if live k then hits code k q else 0)

-- live, and nothing live leads there
abbrev pub IsFree : List Bool → List ℕ → ℕ → Type 0
IsFree live waits q = (marked live q ≡ true) × (slice_index waits q ≡ 0)

-- some are taken of the slots marked at the start, the others are live, and none below `from` is free
pub record IsTaking (code : List Insn) (start live : List Bool) (taken waits : List ℕ) (from : ℕ) : Type 0 where
  pub len : (length live ≡ length code) × (length waits ≡ length code)
  pub takes : Takes (Edge code) (λ q. marked start q ≡ true) taken
  pub kept : (q : ℕ) → marked live q ≡ true → (marked start q ≡ true) × (Contains taken q → ⊥)
  pub rest : (q : ℕ) → marked start q ≡ true → Contains taken q ⊎ (marked live q ≡ true)
  pub counts : (q : ℕ) → slice_index waits q ≡ into code (marked live) (length code) q
  pub size : length taken + count_by (λ b. b) live ≡ count_by (λ b. b) start
  pub low : (q : ℕ) → q < from → IsFree live waits q → ⊥
