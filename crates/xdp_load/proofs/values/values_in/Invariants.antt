use Rattle.std.proofs.Common.{◌≡◌, map, take}
use Rattle.xdp_load.specs.Seen.{map_seen}
use Rattle.xdp_load.specs.Values.{values_of}
use Rattle.xdp_load.proofs.values.values_in.Given as goal

abbrev pub invariant-loop-row : goal.invariant-loop-row
invariant-loop-row l = map (λ v. v.items) l.values.items ≡ map values_of (map map_seen (take l.row-index l.maps))
