use Rattle.std.proofs.Common.{◌≡◌, drop}
use Rattle.xen_front.specs.Tree.{fly}
use Rattle.xen_front.proofs.by_event.ids.fly_all.Given as goal

abbrev pub invariant-loop-id : goal.invariant-loop-id
invariant-loop-id l = fly l.out (drop l.id-index l.ids) ≡ fly l.fn.out l.fn.ids
