use Rattle.honest_pair.proofs.Machine.LogLemmas.{faithful}
use Rattle.honest_pair.proofs.laws.reads_are_faithful.Goals as goal

pub returns : goal.returns
returns c = λ bw fw p es. faithful bw fw p es
