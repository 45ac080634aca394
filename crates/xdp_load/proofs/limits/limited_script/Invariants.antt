use Rattle.std.proofs.Common.{◌≡◌, map, drop}
use Rattle.xdp_load.specs.Gives.{each}
use Rattle.xdp_load.proofs.RowLemmas.{each_done}
use Rattle.xdp_load.specs.declared.fault.Fault.TheVariants.{Limit}
use Rattle.xdp_load.specs.Limits.{limited_step}
use Rattle.xdp_load.specs.Seen.{step_seen}
use Rattle.xdp_load.proofs.limits.limited_script.Given as goal

abbrev pub invariant-loop-i : goal.invariant-loop-i
invariant-loop-i l = each_done Limit (limited_step l.queues) l.i l.script.items (map step_seen (drop l.i l.rows)) ≡ each Limit (limited_step l.queues) 0 (map step_seen l.rows)
