use Rattle.std.proofs.Common.{◌≡◌, vec_len}
use Rattle.xdp_world_tests.proofs.tests.deliveries.answered.Given as goal

abbrev pub invariant-loop-answer : goal.invariant-loop-answer
invariant-loop-answer l = vec_len l.world.queues ≡ vec_len l.fn.world.queues
