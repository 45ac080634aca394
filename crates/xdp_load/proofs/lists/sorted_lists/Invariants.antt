use Rattle.std.proofs.Common.{◌≡◌, take}
use Rattle.xdp_load.specs.Listed.{AreListedBelow}
use Rattle.xdp_load.specs.ListedSeen.{lists_seen}
use Rattle.xdp_load.proofs.lists.sorted_lists.Given as goal

abbrev pub invariant-loop-i : goal.invariant-loop-i
invariant-loop-i l = (l.sorted.items ≡ lists_seen (take l.i l.lists)) × AreListedBelow (lists_seen l.lists) l.i
