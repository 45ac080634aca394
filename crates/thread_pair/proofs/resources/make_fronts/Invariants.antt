use Rattle.std.proofs.Common.{◌≡◌, ◌≤◌, ◌<◌, ◌+◌, All, length, vec_len}
use Rattle.thread_pair.specs.Resources.{IsFrontOf}
use Rattle.thread_pair.specs.declared.resources.FrontPages.{FrontPages}
use Rattle.thread_pair.proofs.resources.make_fronts.Given as goal

abbrev pub invariant-loop-parker : goal.invariant-loop-parker
invariant-loop-parker l =
    (vec_len l.parkers ≤ length l.fn.pages) × All (λ (p : FrontPages). p.queue < l.shared.layout.queues) l.fn.pages × All (IsFrontOf l.shared.layout.queues) l.fronts.items × (vec_len l.fronts + vec_len l.parkers ≡ vec_len l.fn.parkers)

abbrev pub decreases-loop-parker : goal.decreases-loop-parker
decreases-loop-parker l = vec_len l.parkers
