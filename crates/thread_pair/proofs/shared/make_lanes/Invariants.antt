use Rattle.std.proofs.Common.{◌≡◌, vec_len}
use Rattle.thread_pair.proofs.shared.make_lanes.Given as goal

abbrev pub invariant-loop-queue : goal.invariant-loop-queue
invariant-loop-queue l = (vec_len l.lanes ≡ l._queue) × (vec_len l.fronts ≡ l._queue) × (vec_len l.backs ≡ l._queue)
