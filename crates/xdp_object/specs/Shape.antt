-- Stated: claims rest on this file.
-- Which map of this library a definition of libbpf's is. Types of maps: enum bpf_map_type of Linux's bpf.h. A value of Linux's has any
-- size, and lies in memory in whole eight bytes (Linux's Documentation/bpf/map_array.rst); here it is as many counters of eight bytes.
use Rattle.std.specs.Prelude.{ℕ, ◌+◌, ◌-◌, ◌/◌, ◌==◌, ◌||◌, ◌&&◌, Bool, true, if◌then◌else◌, nat_le, nat_lt, Result, Ok, Err}
use Rattle.bpf_note.specs.Shape.{Shape}
use Rattle.bpf_note.specs.declared.key.KeyKind.TheVariants.{Exact, Prefix}
use Rattle.bpf_note.specs.declared.key.MapKey.{MapKey}
use Rattle.bpf_note.specs.declared.key.MapKey.TheVariants.{Index, Listed}
use Rattle.bpf_object.specs.declared.definition.MapDefinition.{MapDefinition}
use Rattle.xdp_object.specs.declared.fault.ShapeFault.{ShapeFault}
use Rattle.xdp_object.specs.declared.fault.ShapeFault.TheVariants.{Kind, Key, Entries, Value}

-- BPF_MAP_TYPE_ARRAY (2) and BPF_MAP_TYPE_PERCPU_ARRAY (6)
abbrev pub is_array : ℕ → Bool
is_array kind = (kind == 2) || (kind == 6)

-- BPF_MAP_TYPE_HASH (1), BPF_MAP_TYPE_PERCPU_HASH (5), BPF_MAP_TYPE_LRU_HASH (9) and BPF_MAP_TYPE_LRU_PERCPU_HASH (10)
abbrev pub is_hash : ℕ → Bool
is_hash kind = (kind == 1) || (kind == 5) || (kind == 9) || (kind == 10)

-- the key of an array is a __u32
abbrev pub array_key : ℕ → Result MapKey ShapeFault
array_key bytes = if bytes == 4 then Ok Index else Err Key

-- a hash's keys are 1 to 64 bytes
abbrev pub hash_key : ℕ → Result MapKey ShapeFault
hash_key bytes = if nat_le 1 bytes && nat_le bytes 64 then Ok (Listed (Exact bytes)) else Err Key

-- a trie's are a struct bpf_lpm_trie_key: a length in 4 bytes, then 1 to 64 bytes
abbrev pub trie_key : ℕ → Result MapKey ShapeFault
trie_key bytes = if nat_lt 4 bytes && nat_le bytes 68 then Ok (Listed (Prefix (bytes - 4))) else Err Key

-- BPF_MAP_TYPE_LPM_TRIE is 11
abbrev pub key_of : MapDefinition → Result MapKey ShapeFault
key_of d =
    if is_array d.kind then array_key d.key_bytes
    else (if is_hash d.kind then hash_key d.key_bytes else (if d.kind == 11 then trie_key d.key_bytes else Err Kind))

-- how many counters of 8 bytes hold a value
abbrev pub counters : ℕ → ℕ
counters bytes = (bytes + 7) / 8

-- a map that has such keys: 1 to 65,536 entries, and values of 1 to 64 bytes, of which a program may load a part
abbrev pub shape_with : MapDefinition → MapKey → Result Shape ShapeFault
shape_with d key =
    if (d.entries == 0) || nat_lt 65536 d.entries then Err Entries
    else (if (d.value_bytes == 0) || nat_lt 64 d.value_bytes then Err Value
    else Ok (record { entries = d.entries; counters = counters d.value_bytes; key = key; parts = true }))

abbrev pub shape_from : MapDefinition → Result MapKey ShapeFault → Result Shape ShapeFault
shape_from d (Ok key) = shape_with d key
shape_from d (Err fault) = Err fault

abbrev pub shape_of : MapDefinition → Result Shape ShapeFault
shape_of d = shape_from d (key_of d)
