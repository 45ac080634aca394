use Rattle.std.proofs.Common.{◌≡◌, map, drop}
use Rattle.xdp_load.specs.Limits.{bad_name}
use Rattle.xdp_load.proofs.names.bad_name.Given as goal

abbrev pub invariant-loop-i : goal.invariant-loop-i
invariant-loop-i l = bad_name l.i (map (λ m. m.name.now) (drop l.i l.rows)) ≡ bad_name 0 (map (λ m. m.name.now) l.rows)
