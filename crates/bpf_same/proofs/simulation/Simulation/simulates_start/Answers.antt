use Rattle.std.proofs.Common.{subst}
use Rattle.bpf_note.specs.Facts.{Facts}
use Rattle.bpf_same.specs.Candidates.{candidate_of}
use Rattle.bpf_same.specs.Simulated.{SimulatesFrom}
use Rattle.bpf_same.proofs.simulation.Simulation.simulates_start.Goals as goal

pub returns : goal.returns
returns c = λ t. subst (λ (n : Facts). SimulatesFrom (candidate_of c.args.self.now) n 0 0) c.entry-note.ensures (c.simulates_from.ensures t)
