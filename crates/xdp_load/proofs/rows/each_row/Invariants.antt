use Rattle.std.proofs.Common.{◌≡◌, map, drop}
use Rattle.xdp_load.specs.Gives.{each}
use Rattle.xdp_load.proofs.RowLemmas.{each_done}
use Rattle.toml.specs.View.{view}
use Rattle.xdp_load.specs.declared.fault.Fault.TheVariants as fault
use Rattle.xdp_load.proofs.rows.each_row.Given as goal

abbrev pub invariant-loop-i : goal.invariant-loop-i
invariant-loop-i g l = each_done fault.Key g.T.Row.meaning l.i (map g.T.Row.seen l.rows.items) (map view (drop l.i l.values)) ≡ each fault.Key g.T.Row.meaning 0 (map view l.values)
