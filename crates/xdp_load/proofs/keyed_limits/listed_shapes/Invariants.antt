use Rattle.std.proofs.Common.{◌≡◌, length, map, drop}
use Rattle.xdp_load.specs.Gives.{each}
use Rattle.xdp_load.proofs.RowLemmas.{each_done}
use Rattle.xdp_load.specs.declared.fault.Fault.TheVariants.{Limit}
use Rattle.xdp_load.specs.Listed.{listed_shape}
use Rattle.xdp_load.specs.ListedSeen.{listed_seen}
use Rattle.xdp_load.proofs.keyed_limits.listed_shapes.Given as goal

abbrev pub invariant-loop-i : goal.invariant-loop-i
invariant-loop-i l = (each_done Limit (listed_shape l.wide) l.i l.shapes.items (map listed_seen (drop l.i l.rows)) ≡ each Limit (listed_shape l.wide) 0 (map listed_seen l.rows)) × (length l.shapes.items ≡ l.i)
