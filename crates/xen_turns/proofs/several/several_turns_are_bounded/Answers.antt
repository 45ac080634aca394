use Rattle.xen_turns.proofs.SeveralBounds.{several_accesses, several_instructions}
use Rattle.xen_turns.proofs.several.several_turns_are_bounded.Goals as goal

pub returns : goal.returns
returns c = record { accesses = several_accesses; instructions = several_instructions }
