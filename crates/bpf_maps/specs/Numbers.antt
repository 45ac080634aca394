-- For proofs: no claim rests on this file.
-- The numbers of lists, as they are laid out.
use Rattle.std.specs.Prelude.{ℕ, suc, List, [], ◌∷◌, ◌++◌, map, slice_get, slice_index}
use Rattle.std.specs.List.{range_with_len}
use Rattle.bpf_maps.specs.Beginning.{numbers_of}
use Rattle.bpf_maps.specs.Layout.{size}
use Rattle.bpf_note.specs.Shape.{Shape}

-- so many numbers of a list, 0 past its end
abbrev pub filled : ℕ → List ℕ → List ℕ
filled count numbers = map (λ (i : ℕ). slice_index numbers i) (range_with_len 0 count)

-- those of all maps, numbered from m on
abbrev pub laid : ℕ → List Shape → List (List ℕ) → List ℕ
laid m [] lists = []
laid m (s ∷ ss) lists = filled (size s) (numbers_of (slice_get lists m)) ++ laid (suc m) ss lists
