-- For proofs: no claim rests on this file.
-- A packet that is lent, or that lies in its room.
use Rattle.std.specs.Prelude.{ℕ, List, Option, None, Some}

abbrev pub held_in : Option (List ℕ) → List ℕ → List ℕ
held_in None held = held
held_in (Some lent) held = lent
