use Rattle.std.proofs.Common.{◌≡◌, ◌≤◌, ℕ, [], vec_len, vec_capacity}
use Rattle.xdp_world.specs.Stands.{delivered_in}
use Rattle.xdp_world.proofs.making.none_delivered.Given as goal

abbrev pub invariant-loop-queue : goal.invariant-loop-queue
invariant-loop-queue l =
    record {
      count : vec_len l.deliveries ≡ l._queue;
      room : l.queues ≤ vec_capacity l.deliveries;
      none : (i : ℕ) → delivered_in l.deliveries.items i ≡ [];
    }
