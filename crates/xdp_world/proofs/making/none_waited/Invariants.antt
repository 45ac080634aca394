use Rattle.std.proofs.Common.{◌≡◌, ◌≤◌, ℕ, [], vec_len, vec_capacity}
use Rattle.xdp_world.specs.Stands.{waited_in}
use Rattle.xdp_world.proofs.making.none_waited.Given as goal

abbrev pub invariant-loop-queue : goal.invariant-loop-queue
invariant-loop-queue l =
    record {
      count : vec_len l.waits ≡ l._queue;
      room : l.queues ≤ vec_capacity l.waits;
      none : (i : ℕ) → waited_in l.waits.items i ≡ [];
    }
