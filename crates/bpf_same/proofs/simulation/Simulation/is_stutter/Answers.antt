use Rattle.std.proofs.Common.{inl, inr}
use Rattle.bpf_same.proofs.simulation.Simulation.is_stutter.Goals as goal

pub returns-then-is_own_step : goal.returns-then-is_own_step
returns-then-is_own_step c = λ t. inl (c.is_own_step.ensures c.if-is_own_step.true)

pub returns-else-is_own_step : goal.returns-else-is_own_step
returns-else-is_own_step c = λ t. inr (c.is_own_load.ensures t)
