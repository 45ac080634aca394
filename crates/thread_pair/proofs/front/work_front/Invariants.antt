use Rattle.std.proofs.Common.{◌≤◌}
use Rattle.xen_front.specs.Fronts.{wiring_of}
use Rattle.xen_page.specs.Shared.{frames_of}
use Rattle.thread_pair.proofs.front.work_front.Given as goal

abbrev pub invariant-loop : goal.invariant-loop
invariant-loop g l =
    (goal.iterator-loop g).can_next l.iterator' × (goal.iterator-loop g).is_finite l.iterator' × ((wiring_of l.front).frames ≤ frames_of l.bus)
