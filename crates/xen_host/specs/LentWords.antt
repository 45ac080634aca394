-- Stated: claims rest on this file.
-- The words that a host in C lends to a step, as they lie in its memory: each is four bytes, from the lowest on.
use Rattle.std.specs.Prelude.{ℕ, List, map}
use Rattle.std.specs.Int.{w32, from_le_bytes}

-- These words.
abbrev pub lent_words : List (List ℕ) → List ℕ
lent_words lent = map (λ bytes. from_le_bytes w32 bytes) lent
