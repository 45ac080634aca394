-- Stated: claims rest on this file.
-- The numbers that a map's counters begin with: those of its values in their order, and 0 where none is written (in Linux user space
-- writes an array's values before a program is attached, bpf(2)).
use Rattle.std.specs.Prelude.{ℕ, ℤ, pos, Bool, not, List, [], ◌∷◌, ◌&&◌, ◌*◌, ◌≤◌, false, true, negsuc, length, map, unsigned_abs, nat_le}
use Rattle.std.specs.List.{list_any}
use Rattle.bpf_note.specs.Shape.{Shape}
use Rattle.bpf_note.specs.declared.key.MapKey.{MapKey}
use Rattle.bpf_note.specs.declared.key.MapKey.TheVariants.{Index, Listed, Constants}
use Rattle.xdp_load.specs.Document.{MapText}

abbrev pub is_negative : ℤ → Bool
is_negative (pos n) = false
is_negative (negsuc n) = true

-- so many counters can begin with these numbers
abbrev pub are_values : ℕ → List ℤ → Bool
are_values counters zs = nat_le (length zs) counters && not (list_any is_negative zs)

-- how many counters of a map can begin with a number: none of constants
abbrev pub room_of : MapKey → ℕ → ℕ
room_of Index counters = counters
room_of (Listed kind) counters = counters
room_of (Constants size) counters = 0

abbrev pub values_of : MapText → List ℕ
values_of m = map unsigned_abs m.values

-- each map has its numbers, at most as many as it has counters
abbrev pub AreFilled : List Shape → List (List ℕ) → Type 0
AreFilled [] [] = Unit {0}
AreFilled [] (v ∷ vs) = ⊥
AreFilled (s ∷ ss) [] = ⊥
AreFilled (s ∷ ss) (v ∷ vs) = (length v ≤ room_of s.key (s.counters * s.entries)) × AreFilled ss vs
