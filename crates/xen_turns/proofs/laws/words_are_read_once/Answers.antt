use Rattle.xen_turns.proofs.TurnOnceLemmas.{posted_distinct, turns_once}
use Rattle.xen_turns.proofs.OnceLemmas.{covered_distinct, fragments_once, slots_once, targets_once}
use Rattle.xen_turns.proofs.laws.words_are_read_once.Goals as goal

pub returns : goal.returns
returns c = record { slots = slots_once; fragments = fragments_once; targets = targets_once; posted = posted_distinct; covered = covered_distinct; turns = turns_once }
