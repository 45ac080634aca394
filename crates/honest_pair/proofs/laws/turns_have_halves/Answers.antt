use Rattle.honest_pair.proofs.Machine.HalfLemmas.{halves}
use Rattle.honest_pair.proofs.laws.turns_have_halves.Goals as goal

pub returns : goal.returns
returns c = λ w s. halves w s
