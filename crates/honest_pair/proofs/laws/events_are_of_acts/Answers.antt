use Rattle.honest_pair.proofs.Machine.ActLemmas.{step_acts}
use Rattle.honest_pair.proofs.laws.events_are_of_acts.Goals as goal

pub returns : goal.returns
returns c = step_acts
