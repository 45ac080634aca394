-- Stated: claims rest on this file.
-- The row that a lookup finds, computed: what a program's machine does with it. That it is the row that `IsFound` names is a law.
use Rattle.std.specs.Prelude.{ℕ, zero, suc, ◌*◌, List, [], ◌∷◌, Option, None, Some, Bool, true, false, ◌&&◌, if◌then◌else◌, ◌==◌, nat_le, nat_lt}
use Rattle.std.specs.Prelude.{length, drop, slice_get}
use Rattle.bpf_note.specs.declared.key.KeyKind.{KeyKind}
use Rattle.bpf_note.specs.declared.key.KeyKind.TheVariants.{Exact, Prefix}
use Rattle.bpf_note.specs.Keys.{size, word, bits_of}
use Rattle.bpf_note.specs.Bytes.{number_of}
use Rattle.bpf_lists.specs.Keys.{Keyed, first, row, count}
use Rattle.bpf_lists.specs.declared.list.MapList.{MapList}
use Rattle.bpf_lists.specs.declared.list.MapList.TheVariants.{Rows, Constants}

-- whether two lists of bytes are the same
abbrev pub are_same : List ℕ → List ℕ → Bool
are_same [] [] = true
are_same [] (y ∷ ys) = false
are_same (x ∷ xs) [] = false
are_same (x ∷ xs) (y ∷ ys) = (x == y) && are_same xs ys

-- whether a row holds for a key
abbrev pub holds : KeyKind → List ℕ → List ℕ → Bool
holds (Exact bytes) r key = are_same r key
holds (Prefix bytes) r key = nat_le (word r) (word key) && (nat_le (word key) (8 * bytes) && (first (word r) (drop 4 r) == first (word r) (drop 4 key)))

-- row r, or the row before it that was found, if that is no shorter
abbrev pub longer : KeyKind → List ℕ → ℕ → Option ℕ → Option ℕ
longer kind keys r None = Some r
longer kind keys r (Some s) = if nat_lt (bits_of kind (row kind keys s)) (bits_of kind (row kind keys r)) then Some r else Some s

-- the longest of the first n rows that holds
abbrev pub found_among : KeyKind → List ℕ → List ℕ → ℕ → Option ℕ
found_among kind keys key zero = None
found_among kind keys key (suc n) =
    if holds kind (row kind keys n) key then longer kind keys n (found_among kind keys key n) else found_among kind keys key n

-- the row of a list that a key finds
abbrev pub row_for : Keyed → List ℕ → Option ℕ
row_for keyed key = found_among keyed.kind keyed.keys key (count keyed.kind keyed.keys)

-- what a list has for a key: a row if its keys are of that size, or of constants the byte at the place that a __u32 names
abbrev pub listed_in : MapList → List ℕ → Option ℕ
listed_in (Rows keyed) key = if length key == size keyed.kind then row_for keyed key else None
listed_in (Constants bytes) key = if length key == 4 then slice_get bytes (number_of key) else None

-- a list that isn't there has nothing
abbrev pub found_in : Option (Option MapList) → List ℕ → Option ℕ
found_in None key = None
found_in (Some None) key = None
found_in (Some (Some list)) key = listed_in list key

-- what the lists of a program's maps answer, by the number of the map
abbrev pub find_in : List (Option MapList) → ℕ → List ℕ → Option ℕ
find_in lists m key = found_in (slice_get lists m) key
