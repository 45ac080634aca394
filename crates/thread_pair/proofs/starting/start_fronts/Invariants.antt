use Rattle.std.proofs.Common.{All, vec_len, vec_capacity, ◌≡◌, ◌+◌, ◌≤◌}
use Rattle.thread_pair.specs.Resources.{IsFrontOf}
use Rattle.thread_pair.proofs.starting.start_fronts.Given as goal

abbrev pub invariant-loop-own : goal.invariant-loop-own
invariant-loop-own g l = All (IsFrontOf l.shared.layout.queues) l.resources.items × (vec_len l.resources + vec_len l.fronts ≡ vec_len l.fn.resources) × (vec_len l.fn.resources ≤ vec_capacity l.fronts)

abbrev pub decreases-loop-own : goal.decreases-loop-own
decreases-loop-own g l = vec_len l.resources
