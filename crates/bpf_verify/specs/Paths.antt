-- Stated: claims rest on this file.
-- Paths of a relation between slots, and ranks.
use Rattle.std.specs.Prelude.{ℕ, zero, suc, ◌<◌}

-- from p edges lead to q: none, one or more
pub data Reaches (Edge : ℕ → ℕ → Type 0) : ℕ → ℕ → Type 0 where
  here : {p : ℕ} → Reaches Edge p p
  along : {p q r : ℕ} → Edge p q → Reaches Edge q r → Reaches Edge p r

-- a path of k edges leads from the first slot to the second
pub data Steps (Edge : ℕ → ℕ → Type 0) : ℕ → ℕ → ℕ → Type 0 where
  stay : {p : ℕ} → Steps Edge zero p p
  step : {k p q r : ℕ} → Edge p q → Steps Edge k q r → Steps Edge (suc k) p r

-- a number for each slot, which falls along every edge
pub record IsRank (Edge : ℕ → ℕ → Type 0) (rank : ℕ → ℕ) : Type 0 where
  pub falls : (p q : ℕ) → Edge p q → rank q < rank p
