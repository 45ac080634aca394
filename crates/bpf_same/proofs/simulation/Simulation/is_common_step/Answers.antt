use Rattle.std.proofs.Common.{inr}
use Rattle.bpf_same.proofs.simulation.Simulation.is_common_step.Goals as goal

pub returns-then-is_stored_sum : goal.returns-then-is_stored_sum
returns-then-is_stored_sum c = λ t. inr (c.is_stored_sum.ensures c.if-is_stored_sum.true, c.establishes.ensures t)
