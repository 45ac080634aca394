-- Stated: claims rest on this file.
-- By what the values of a map are looked up, as in Linux's bpf.h: an array's by their numbers (BPF_MAP_TYPE_ARRAY, keys of four bytes), a list's by
-- keys of bytes that are all the same (BPF_MAP_TYPE_HASH), or by prefixes (BPF_MAP_TYPE_LPM_TRIE, keys as `bpf_lpm_trie_key`). Constants are an array
-- that programs only read (BPF_F_RDONLY_PROG), by the address of its value.
use Rattle.std.specs.Prelude.{ℕ, ◌+◌, ◌*◌, ◌≤◌, List, drop, slice_index}
use Rattle.bpf_note.specs.declared.key.KeyKind.{KeyKind}
use Rattle.bpf_note.specs.declared.key.KeyKind.TheVariants.{Exact, Prefix}
use Rattle.bpf_note.specs.declared.key.MapKey.{MapKey}
use Rattle.bpf_note.specs.declared.key.MapKey.TheVariants.{Index, Listed, Constants}

-- how many bytes of data a key has
abbrev pub width : KeyKind → ℕ
width (Exact bytes) = bytes
width (Prefix bytes) = bytes

-- how many bytes a key has: the length of a prefix is a __u32 in front of the data
abbrev pub size : KeyKind → ℕ
size (Exact bytes) = bytes
size (Prefix bytes) = 4 + bytes

-- 1 to 64 bytes of data
abbrev pub IsKind : KeyKind → Type 0
IsKind kind = (1 ≤ width kind) × (width kind ≤ 64)

-- the number in a __u32 of a little-endian machine
abbrev pub word : List ℕ → ℕ
word bytes = slice_index bytes 0 + 256 * slice_index bytes 1 + 65536 * slice_index bytes 2 + 16777216 * slice_index bytes 3

-- the data of a key
abbrev pub data_of : KeyKind → List ℕ → List ℕ
data_of (Exact bytes) key = key
data_of (Prefix bytes) key = drop 4 key

-- how many bits of its data a key is about
abbrev pub bits_of : KeyKind → List ℕ → ℕ
bits_of (Exact bytes) key = 8 * bytes
bits_of (Prefix bytes) key = word key

-- how many bytes a program gives to a lookup
abbrev pub key_size : MapKey → ℕ
key_size Index = 4
key_size (Listed kind) = size kind
key_size (Constants bytes) = 4

-- how many bytes of constants a map has
abbrev pub constant_bytes : MapKey → ℕ
constant_bytes Index = 0
constant_bytes (Listed kind) = 0
constant_bytes (Constants bytes) = bytes

-- the limits of this profile
abbrev pub IsKey : MapKey → Type 0
IsKey Index = Unit {0}
IsKey (Listed kind) = IsKind kind
IsKey (Constants bytes) = bytes ≤ 65536
