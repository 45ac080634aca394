use Rattle.std.proofs.Common.{◌<◌, ℕ}
use Rattle.bpf_same.specs.Candidates.{candidate_of}
use Rattle.bpf_same.specs.Simulated.{SimulatesSlot}
use Rattle.bpf_same.proofs.simulation.Simulation.is_simulation.Given as goal

abbrev pub invariant-loop-pc : goal.invariant-loop-pc
invariant-loop-pc l = (q : ℕ) → q < l.pc → SimulatesSlot (candidate_of l.self) l.new l.shapes q
