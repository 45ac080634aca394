-- Stated: claims rest on this file.
-- Accesses to page words, and what a bus reports of them.
use Rattle.std.specs.Prelude.{◌≡◌, List, [], ◌∷◌, ◌++◌, Option, Some, None}
use Rattle.xen_page.specs.declared.access.Access.{Access}

-- The log grew by these accesses, if the bus still reports it. A bus that doesn't report never begins to.
abbrev pub Tells : (old new : Option (List Access)) → List Access → Type 0
Tells old None accesses = Unit {0}
Tells (Some old) (Some new) accesses = new ≡ old ++ accesses
Tells None (Some new) accesses = ⊥

-- These accesses, one after another, take a bus from one state to another.
abbrev pub Passes : {S : Type 0} → (S → Access → S → Type 0) → S → List Access → S → Type 0
Passes gives old [] new = old ≡ new
Passes {S = S} gives old (access ∷ rest) new = (mid : S) × gives old access mid × Passes gives mid rest new

-- A bus went through these accesses: they are what its log grew by, if it reports, and each was one that it allows.
pub record Performs {S : Type 0} (log : S → Option (List Access)) (gives : S → Access → S → Type 0)
    (old : S) (accesses : List Access) (new : S) : Type 0 where
  pub told : Tells (log old) (log new) accesses
  pub given : Passes gives old accesses new
