use Rattle.std.proofs.Common.{◌≡◌, vec_len}
use Rattle.xdp_world_tests.proofs.tests.deliveries.goes.Given as goal

abbrev pub invariant-loop-step : goal.invariant-loop-step
invariant-loop-step l = vec_len l.world.queues ≡ vec_len l.fn.world.queues
