use Rattle.xen_turns.proofs.TurnParts.{turn_parts}
use Rattle.xen_turns.proofs.TurnRuns.{runs_turn}
use Rattle.xen_turns.proofs.laws.turns_are_rests.Goals as goal

pub returns : goal.returns
returns c = record { turns = turn_parts; rests = runs_turn }
