-- Stated: claims rest on this file.
-- What contracts see of given maps, and why a function has no numbers of theirs.
use Rattle.std.specs.Prelude.{ℕ, ◌<◌, List, length, map, string_bytes}
use Rattle.bpf_object.specs.Map.{HasNoTypes}
use Rattle.bpf_object.specs.Object.{Parts}
use Rattle.bpf_object.specs.declared.reference.ConstantReference.{ConstantReference}
use Rattle.bpf_object.specs.declared.reference.MapReference.{MapReference}
use Rattle.xdp_object.specs.Constants.{MapsView}
use Rattle.xdp_object.specs.Original.{IsFirstUnnumbered, IsFirstUnplaced}
use Rattle.xdp_object.specs.declared.fault.OriginalFault.{OriginalFault}
use Rattle.xdp_object.specs.declared.fault.OriginalFault.TheVariants.{Types, Map}
use Rattle.xdp_object.specs.declared.original.GivenMaps.{GivenMaps}

abbrev pub given_seen : GivenMaps → MapsView
given_seen g = record { names = map string_bytes g.names.now; shapes = g.shapes.now; lists = g.lists.now }

abbrev pub IsUnnumbered : Parts → MapsView → List ℕ → List MapReference → OriginalFault → Type 0
IsUnnumbered o given code rs (Map slot why) = IsFirstUnnumbered o given code rs slot why
IsUnnumbered o given code rs (Types fault) = (0 < length rs) × HasNoTypes o fault
IsUnnumbered o given code rs _ = ⊥

abbrev pub IsUnplaced : Parts → MapsView → List ℕ → List ConstantReference → OriginalFault → Type 0
IsUnplaced o given code cs (Map slot why) = IsFirstUnplaced o given code cs slot why
IsUnplaced o given code cs _ = ⊥
