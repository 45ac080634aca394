use Rattle.std.proofs.Common.{◌≡◌, ◌≤◌, vec_len, vec_capacity}
use Rattle.xdp_world_tests.proofs.tests.programs.buffers.Given as goal

abbrev pub invariant-loop-queue : goal.invariant-loop-queue
invariant-loop-queue l =
    record {
      count : vec_len l.buffers ≡ l._queue;
      room : l.queues ≤ vec_capacity l.buffers;
    }
