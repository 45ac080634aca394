-- Stated: claims rest on this file.
-- Orders of slots along a relation: each slot is the lowest whose predecessors are done.
use Rattle.std.specs.Prelude.{ℕ, ◌≤◌, List, [], ◌∷◌, ◌++◌, Contains}

-- q isn't taken yet, and all that leads to it is
pub record IsReady (Edge : ℕ → ℕ → Type 0) (In : ℕ → Type 0) (taken : List ℕ) (q : ℕ) : Type 0 where
  pub within : In q
  pub open' : Contains taken q → ⊥
  pub preds : (p : ℕ) → In p → Edge p q → Contains taken p

-- each slot was the lowest that was ready as it was taken
pub data Takes (Edge : ℕ → ℕ → Type 0) (In : ℕ → Type 0) : List ℕ → Type 0 where
  none : Takes Edge In []
  more : {taken : List ℕ} {p : ℕ} → Takes Edge In taken → IsReady Edge In taken p → ((q : ℕ) → IsReady Edge In taken q → p ≤ q) →
      Takes Edge In (taken ++ p ∷ [])
