use Rattle.std.proofs.Common.{◌≡◌, map, drop}
use Rattle.std.specs.Prelude.{◌++◌}
use Rattle.xdp_load.specs.Gives.{seen_by}
use Rattle.xdp_load.specs.Listed.{lists_of}
use Rattle.xdp_load.specs.ListedSeen.{listed_seen, lists_seen}
use Rattle.xdp_load.proofs.lists.lists_of.Given as goal

abbrev pub invariant-loop-i : goal.invariant-loop-i
invariant-loop-i l = seen_by (λ rest. lists_seen l.lists.items ++ rest) (lists_of l.i (drop l.i l.shapes) (map listed_seen (drop l.i l.maps))) ≡ lists_of 0 l.shapes (map listed_seen l.maps)
