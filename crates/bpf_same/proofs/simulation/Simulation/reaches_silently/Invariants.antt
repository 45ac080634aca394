use Rattle.bpf_note.specs.Parts.{facts}
use Rattle.bpf_same.specs.Simulated.{ReachesSilently}
use Rattle.bpf_same.proofs.simulation.Simulation.reaches_silently.Given as goal

abbrev pub invariant-loop-jump : goal.invariant-loop-jump
invariant-loop-jump l = ReachesSilently l.self.alone l.self.old.now l.relation l.self.low (facts l.note) l.from l.at
