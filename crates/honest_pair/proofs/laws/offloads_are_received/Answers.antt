use Rattle.honest_pair.proofs.OffloadLemmas.{received}
use Rattle.honest_pair.proofs.laws.offloads_are_received.Goals as goal

pub returns : goal.returns
returns c = received
