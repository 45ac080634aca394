-- Stated: claims rest on this file.
-- Keys of maps, and which row of a keyed map is found. Exact keys are those of BPF_MAP_TYPE_HASH; prefixes those of
-- BPF_MAP_TYPE_LPM_TRIE, as in `bpf_lpm_trie_key` of Linux's bpf.h.
use Rattle.std.specs.Prelude.{ℕ, ◌≡◌, ◌+◌, ◌-◌, ◌*◌, ◌/◌, ◌^◌, ◌<◌, ◌≤◌, List, [], ◌∷◌, Option, None, Some}
use Rattle.std.specs.Prelude.{length, drop, slice_range}
use Rattle.bpf_note.specs.Keys.{size, word, bits_of}
use Rattle.bpf_note.specs.declared.key.KeyKind.{KeyKind}
use Rattle.bpf_note.specs.declared.key.KeyKind.TheVariants.{Exact, Prefix}

-- data is "interpreted as big endian, so data[0] stores the most significant byte" (Linux's kernel/bpf/lpm_trie.c)
abbrev pub value : List ℕ → ℕ
value [] = 0
value (x ∷ xs) = x * 2 ^ (8 * length xs) + value xs

-- the first bits of data, as a number
abbrev pub first : ℕ → List ℕ → ℕ
first bits bytes = value bytes / 2 ^ (8 * length bytes - bits)

-- the key of row r, where the keys of all rows follow one another
abbrev pub row : KeyKind → List ℕ → ℕ → List ℕ
row kind keys r = slice_range keys (size kind * r) (size kind * r + size kind)

-- A row holds for a key: an exact one is the same, a prefix is no longer than the key and begins it. Linux finds nothing for a key
-- whose length is above that of its data.
abbrev pub Holds : KeyKind → List ℕ → List ℕ → Type 0
Holds (Exact bytes) r key = r ≡ key
Holds (Prefix bytes) r key = (word r ≤ word key) × (word key ≤ 8 * bytes) × (first (word r) (drop 4 r) ≡ first (word r) (drop 4 key))

-- how many rows there are
abbrev pub count : KeyKind → List ℕ → ℕ
count kind keys = length keys / size kind

-- Row r holds, and no longer one does
pub record IsLongest (kind : KeyKind) (keys : List ℕ) (key : List ℕ) (r : ℕ) : Type 0 where
  pub within : r < count kind keys
  pub holds : Holds kind (row kind keys r) key
  pub longest : (s : ℕ) → s < count kind keys → Holds kind (row kind keys s) key → bits_of kind (row kind keys s) ≤ bits_of kind (row kind keys r)

-- what a lookup answers
abbrev pub IsFound : KeyKind → List ℕ → List ℕ → Option ℕ → Type 0
IsFound kind keys key None = (s : ℕ) → s < count kind keys → Holds kind (row kind keys s) key → ⊥
IsFound kind keys key (Some r) = IsLongest kind keys key r

-- what contracts see of a map's rows
pub record Keyed : Type 0 where
  pub kind : KeyKind
  pub keys : List ℕ
