use Rattle.honest_pair.proofs.Invariant.Instance.{whole_law}
use Rattle.honest_pair.proofs.laws.pair_law.Goals as goal

pub returns : goal.returns
returns c = whole_law
