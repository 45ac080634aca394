-- For proofs: no claim rests on this file.
-- What contracts see of maps, and why there are none of constants behind some maps.
use Rattle.std.specs.Prelude.{ℕ, ◌≡◌, ◌+◌, List, None, length, map, replicate, string_bytes}
use Rattle.bpf_object.specs.Object.{Parts}
use Rattle.xdp_object.specs.Constants.{MapsView, IsFirstWithout}
use Rattle.xdp_object.specs.declared.constants.ListedMaps.{ListedMaps}
use Rattle.xdp_object.specs.declared.fault.SetupFault.{SetupFault}
use Rattle.xdp_object.specs.declared.fault.SetupFault.TheVariants.{Map, Memory}
use Rattle.xdp_object.specs.declared.maps.Maps.{Maps}

abbrev pub maps_seen : ListedMaps → MapsView
maps_seen m = record { names = map string_bytes m.names.items; shapes = m.shapes.items; lists = m.lists.items }

abbrev pub unlisted : Maps → MapsView
unlisted m = record { names = map string_bytes m.names.items; shapes = m.shapes.items; lists = replicate (length m.shapes.items) None }

abbrev pub IsUnplacedFrom : Parts → MapsView → ℕ → List ℕ → SetupFault → Type 0
IsUnplacedFrom o m first sections (Map n cause) = (k : ℕ) × ((n ≡ first + k) × IsFirstWithout o m sections k cause)
IsUnplacedFrom o m first sections Memory = Unit {0}
IsUnplacedFrom o m first sections _ = ⊥
