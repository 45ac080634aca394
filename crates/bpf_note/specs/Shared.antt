-- Stated: claims rest on this file.
-- Lists that are shared.
use Rattle.std.specs.Prelude.{List, [], Option, None, Some}

-- the list that a reference refers to, if there is one
abbrev pub listed : {R A : Type 0} → (R → List A) → Option R → List A
listed items None = []
listed items (Some r) = items r
