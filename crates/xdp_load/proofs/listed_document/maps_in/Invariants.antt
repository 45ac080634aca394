use Rattle.std.proofs.Common.{◌≡◌, map, take}
use Rattle.xdp_load.specs.ListedSeen.{listed_seen}
use Rattle.xdp_load.specs.Seen.{map_seen}
use Rattle.xdp_load.proofs.listed_document.maps_in.Given as goal

abbrev pub invariant-loop-row : goal.invariant-loop-row
invariant-loop-row l = map map_seen l.maps.items ≡ map (λ m. m.map) (map listed_seen (take l.row-index l.rows))
