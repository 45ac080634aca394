use Rattle.std.proofs.Common.{◌≡◌, ◌≤◌, vec_len}
use Rattle.thread_pair.proofs.joining.join_fronts.Given as goal

abbrev pub invariant-loop-thread : goal.invariant-loop-thread
invariant-loop-thread g l = (vec_len l.rows ≡ vec_len l.initial.rows) × (vec_len l.threads ≤ vec_len l.rows)

abbrev pub decreases-loop-thread : goal.decreases-loop-thread
decreases-loop-thread g l = vec_len l.threads
