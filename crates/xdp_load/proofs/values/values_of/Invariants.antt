use Rattle.std.proofs.Common.{◌≡◌, map, take}
use Rattle.std.specs.Prelude.{unsigned_abs}
use Rattle.xdp_load.specs.Seen.{row_numbers}
use Rattle.xdp_load.proofs.values.values_of.Given as goal

abbrev pub invariant-loop-value : goal.invariant-loop-value
invariant-loop-value l = l.values.items ≡ map unsigned_abs (row_numbers (take l.value-index l.row.values.now))
