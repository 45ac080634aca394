use Rattle.std.proofs.Common.{◌≡◌, map, drop}
use Rattle.xdp_load.specs.Gives.{each}
use Rattle.xdp_load.proofs.RowLemmas.{each_done}
use Rattle.xdp_load.specs.declared.fault.Fault.TheVariants.{Limit}
use Rattle.xdp_load.specs.Limits.{limited_shape}
use Rattle.xdp_load.specs.Seen.{map_seen}
use Rattle.xdp_load.proofs.limits.limited_shapes.Given as goal

abbrev pub invariant-loop-i : goal.invariant-loop-i
invariant-loop-i l = each_done Limit limited_shape l.i l.shapes.items (map map_seen (drop l.i l.rows)) ≡ each Limit limited_shape 0 (map map_seen l.rows)
