-- Stated: claims rest on this file.
-- What C is told of a program's maps.
use Rattle.std.specs.Prelude.{ℕ, ◌^◌, ◌-◌, List, [], Option, None, Some, get_or, position, slice_get}
use Rattle.std.specs.Str.{bytes_eq}
use Rattle.bpf_note.specs.Shape.{Shape}
use Rattle.xdp_host.specs.declared.abi.XdpMap.{XdpMap}

-- there is no such map
abbrev pub no_map : XdpMap
no_map = record { entries = 0; counters = 0 }

abbrev pub map_or : Option Shape → XdpMap
map_or None = no_map
map_or (Some s) = record { entries = s.entries; counters = s.counters }

-- the map of this number, from 0
abbrev pub map_at : List Shape → ℕ → XdpMap
map_at shapes number = map_or (slice_get shapes number)

-- the name of the map of this number, from 0: no bytes if there is none
abbrev pub name_at : List (List ℕ) → ℕ → List ℕ
name_at names number = get_or names number []

-- the number of the first map with this name, or else the greatest number of 64 bits
abbrev pub or_nowhere : Option ℕ → ℕ
or_nowhere None = 2 ^ 64 - 1
or_nowhere (Some number) = number

abbrev pub number_of : List (List ℕ) → List ℕ → ℕ
number_of names name = or_nowhere (position (bytes_eq name) names)
