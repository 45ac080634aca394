-- For proofs: no claim rests on this file.
-- A name that is looked for in a string table, and the places where it isn't.
use Rattle.std.specs.Prelude.{ℕ, ◌≡◌, List, Bool, true, false, get_or}
use Rattle.bpf_object.specs.Bytes.{IsText}

-- what contracts see of it: the table, and the name
pub record NameIn : Type 0 where
  pub table : List ℕ
  pub name : List ℕ

-- at each place that is marked the table doesn't have the name
abbrev pub AreMissed : List ℕ → List ℕ → List Bool → Type 0
AreMissed table name missed = (at : ℕ) → get_or missed at false ≡ true → IsText table at name → ⊥
