use Rattle.std.proofs.Common.{◌≡◌, map, drop}
use Rattle.std.specs.Prelude.{◌++◌}
use Rattle.xdp_load.specs.Gives.{seen_by}
use Rattle.xdp_load.specs.Seen.{hex_seen}
use Rattle.xdp_load.specs.Setup.{joined}
use Rattle.xdp_load.proofs.packets.joined.Given as goal

abbrev pub invariant-loop-i : goal.invariant-loop-i
invariant-loop-i l = seen_by (λ rest. l.program.items ++ rest) (joined l.i (map hex_seen (drop l.i l.texts))) ≡ joined 0 (map hex_seen l.texts)
