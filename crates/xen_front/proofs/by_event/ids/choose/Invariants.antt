use Rattle.std.proofs.Common.{◌≡◌, ◌+◌, ◌-◌, ◌≤◌, ◌++◌, length, take}
use Rattle.xen_front.specs.Fronts.{free_in, chosen}
use Rattle.xen_front.proofs.by_event.ids.choose.Given as goal

abbrev pub invariant-loop-i : goal.invariant-loop-i
invariant-loop-i l = (l.ids.items ++ take l.left (free_in l.fn.ring.out (256 - l.i) l.i) ≡ chosen l.fn.n l.fn.ring.out) × (length l.ids.items + l.left ≤ 16)
