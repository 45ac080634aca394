use Rattle.bpf_same.proofs.simulation.Simulation.entails.Goals as goal

pub returns-then-preserves : goal.returns-then-preserves
returns-then-preserves c = λ t. record {
  preserves = c.preserves.ensures c.if-preserves.true;
  contents = c.preserves_contents.ensures t;
}
