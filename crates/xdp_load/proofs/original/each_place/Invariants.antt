use Rattle.std.proofs.Common.{◌≡◌, map, drop}
use Rattle.xdp_load.specs.Gives.{each}
use Rattle.xdp_load.proofs.RowLemmas.{each_done}
use Rattle.xdp_load.specs.declared.fault.Fault.TheVariants.{Limit}
use Rattle.xdp_load.specs.Original.{limited_place}
use Rattle.xdp_load.specs.Seen.{place_seen}
use Rattle.xdp_load.specs.OriginalSeen.{place_view}
use Rattle.xdp_load.proofs.original.each_place.Given as goal

abbrev pub invariant-loop-i : goal.invariant-loop-i
invariant-loop-i l = each_done Limit limited_place l.i (map place_view l.places.items) (map place_seen (drop l.i l.rows)) ≡ each Limit limited_place 0 (map place_seen l.rows)
