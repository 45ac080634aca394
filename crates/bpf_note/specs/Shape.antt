-- Stated: claims rest on this file.
-- Maps, as in Linux's bpf.h. Their values are rows of counters.
use Rattle.std.specs.Prelude.{ℕ, ◌≡◌, ◌<◌, ◌≤◌, List, Option, None, Some, Bool, false, slice_get}
use Rattle.bpf_note.specs.Keys.{IsKey}
use Rattle.bpf_note.specs.declared.key.MapKey.{MapKey}
use Rattle.bpf_note.specs.declared.key.MapKey.TheVariants.{Index}

-- how many values a map has, how many counters of 64 bits a value has, by what a value is looked up, and whether a load may take fewer
-- than the eight bytes of a counter
pub record Shape : Type 0 where
  pub entries : ℕ
  pub counters : ℕ
  pub key : MapKey
  pub parts : Bool

-- how many maps a program has at most
abbrev pub most_maps : ℕ
most_maps = 16

-- the limits of this profile
pub record IsShape (s : Shape) : Type 0 where
  pub some_entries : 1 ≤ s.entries
  pub most_entries : s.entries ≤ 65536
  pub some_counters : 1 ≤ s.counters
  pub most_counters : s.counters ≤ 8
  pub key : IsKey s.key

-- the limits of maps for which nothing more is asked: arrays of at most 1,024 values, whose counters are loaded whole
pub record IsNarrow (s : Shape) : Type 0 where
  pub some_entries : 1 ≤ s.entries
  pub most_entries : s.entries ≤ 1024
  pub some_counters : 1 ≤ s.counters
  pub most_counters : s.counters ≤ 8
  pub index : s.key ≡ Index
  pub whole : s.parts ≡ false

-- every map is within the limits
abbrev pub AreShapes : List Shape → Type 0
AreShapes shapes = (m : ℕ) (shape : Shape) → slice_get shapes m ≡ Some shape → IsShape shape

-- a value and a counter of it lie within the map, if there is one
abbrev pub IsWithin : Option Shape → ℕ → ℕ → Type 0
IsWithin None k j = ⊥
IsWithin (Some s) k j = (k < s.entries) × (j < s.counters)

-- counter j of value k of map m is one of the maps'
abbrev pub IsCounter : List Shape → ℕ → ℕ → ℕ → Type 0
IsCounter shapes m k j = IsWithin (slice_get shapes m) k j
