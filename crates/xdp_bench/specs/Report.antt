-- For proofs: no claim rests on this file.
-- What the bench prints of a line.
use Rattle.std.specs.Prelude.{ℕ, List, ◌++◌, codes, decimal, Option, Some, None}

abbrev pub report : ℕ → Option ℕ → List ℕ
report done (Some nanoseconds) = codes "done " ++ (decimal done ++ (codes " in " ++ (decimal nanoseconds ++ codes " ns")))
report done None = codes "done " ++ decimal done
