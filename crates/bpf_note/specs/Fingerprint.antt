-- Stated: claims rest on this file.
-- A number of a list of bounds: lists with other numbers differ.
use Rattle.std.specs.Prelude.{ℕ, ◌+◌, ◌*◌, ◌%◌, ◌^◌, List, [], ◌∷◌, Option, None, Some, fold}
use Rattle.std.specs.Hash as fed
use Rattle.std.specs.Hash.FoldHasher as folding
use Rattle.bpf_note.specs.declared.bound.Bound.{Bound}

abbrev pub safe_word : Option ℕ → ℕ
safe_word None = 0
safe_word (Some safe) = safe + 1

-- a word for what a bound says: its id, its top from bit 16 on, its safe bound from bit 40 on
abbrev pub words : Bound → List (List ℕ)
words b = fed.u64 ((b.top * 65536 + b.id + safe_word b.safe * 2 ^ 40 % 2 ^ 64) % 2 ^ 64)

-- no bounds, which take no memory, have the number 0
unfoldable pub fingerprint_of : List Bound → ℕ
fingerprint_of [] = 0
fingerprint_of (b ∷ bs) = folding.finish (fold folding.write folding.initial (fed.slice words (b ∷ bs)))
