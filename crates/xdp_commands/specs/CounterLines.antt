-- Stated: claims rest on this file.
-- The lines of the counters that a run leaves.
use Rattle.std.specs.Prelude.{ℕ, zero, suc, ◌+◌, List, [], ◌∷◌, ◌++◌, codes, decimal, ◌==◌, if◌then◌else◌}
use Rattle.bpf_maps.specs.Seats.{TotalsView, total_at}
use Rattle.bpf_note.specs.Shape.{Shape}

-- the place of a counter in its value, if a value has several
abbrev pub place_text : Shape → ℕ → List ℕ
place_text shape j = if shape.counters == 1 then [] else codes " " ++ decimal j

-- the map's name, the key, the place and the number; a counter that is 0 has no line
abbrev pub counter_text : List ℕ → Shape → ℕ → ℕ → ℕ → List ℕ
counter_text name shape k j number =
    if number == 0 then [] else codes "counter " ++ (name
    ++ (codes " " ++ (decimal k ++ (place_text shape j ++ (codes " " ++ (decimal number ++ codes "\n"))))))

-- n counters of a value, from counter j on, by what each holds
abbrev pub value_text : (ℕ → ℕ) → List ℕ → Shape → ℕ → ℕ → ℕ → List ℕ
value_text at name shape k j zero = []
value_text at name shape k j (suc n) = counter_text name shape k j (at j) ++ value_text at name shape k (j + 1) n

-- n values of a map, from value k on
abbrev pub map_text : (ℕ → ℕ → ℕ) → List ℕ → Shape → ℕ → ℕ → List ℕ
map_text at name shape k zero = []
map_text at name shape k (suc n) = value_text (at k) name shape k 0 shape.counters ++ map_text at name shape (k + 1) n

-- the maps from number m on, by their names
abbrev pub maps_text : (ℕ → ℕ → ℕ → ℕ) → ℕ → List (List ℕ) → List Shape → List ℕ
maps_text at m [] shapes = []
maps_text at m (n ∷ ns) [] = []
maps_text at m (n ∷ ns) (s ∷ ss) = map_text (at m) n s 0 s.entries ++ maps_text at (m + 1) ns ss

-- by map, key and place
abbrev pub totals_text : List (List ℕ) → TotalsView → List ℕ
totals_text names totals = maps_text (total_at totals) 0 names totals.shapes
