use Rattle.honest_pair.proofs.Invariant.BackDelivers.{delivery_safe}
use Rattle.honest_pair.proofs.Invariant.BackLaws.{half_safe, wakes, copies_begin, told_begins, all_heard}
use Rattle.honest_pair.proofs.Invariant.BackWaits.{asks, forgets, looks, tells}
use Rattle.honest_pair.proofs.laws.back_law.Goals as goal

pub returns : goal.returns
returns c = (half_safe, wakes, copies_begin, told_begins, all_heard, delivery_safe, asks, looks, forgets, tells)
