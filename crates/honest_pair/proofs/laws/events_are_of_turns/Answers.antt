use Rattle.honest_pair.proofs.Machine.TraceLemmas.{step_follows}
use Rattle.honest_pair.proofs.laws.events_are_of_turns.Goals as goal

pub returns : goal.returns
returns c = step_follows
