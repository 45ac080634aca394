-- Stated: claims rest on this file.
-- Where the counters lie: those of a value follow one another, so do the values of a map, and the maps.
use Rattle.std.specs.Prelude.{ℕ, zero, suc, ◌+◌, ◌*◌, List, [], ◌∷◌}
use Rattle.bpf_note.specs.Shape.{Shape}

-- how many counters a map has
abbrev pub size : Shape → ℕ
size s = s.counters * s.entries

-- how many counters come before counter j of value k of map m
abbrev pub place_of : List Shape → ℕ → ℕ → ℕ → ℕ
place_of [] m k j = 0
place_of (s ∷ ss) zero k j = s.counters * k + j
place_of (s ∷ ss) (suc m) k j = size s + place_of ss m k j

-- how many counters all maps have
abbrev pub total : List Shape → ℕ
total [] = 0
total (s ∷ ss) = size s + total ss
