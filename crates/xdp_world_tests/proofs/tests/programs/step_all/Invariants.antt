use Rattle.std.proofs.Common.{◌≡◌, vec_len}
use Rattle.xdp_world_tests.proofs.tests.programs.step_all.Given as goal

abbrev pub invariant-loop-queue : goal.invariant-loop-queue
invariant-loop-queue l =
    record {
      size : vec_len l.world.queues ≡ l.queues;
      shapes : l.world.counters.shapes ≡ l.fn.world.counters.shapes;
    }
