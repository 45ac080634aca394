use Rattle.xen_turns.proofs.SeveralLemmas.{several_alone, turn_alone}
use Rattle.xen_turns.proofs.several.one_of_several_is_a_turn.Goals as goal

pub returns : goal.returns
returns c = record { one = several_alone; each = turn_alone }
