-- Stated: claims rest on this file.
-- How many entries a producer shows, as an answer.
use Rattle.std.specs.Prelude.{ℕ, List, Option, Some, None, codes, decimal}

abbrev pub shown : Option ℕ → List ℕ
shown (Some count) = decimal count
shown None = codes "overflow"
