use Rattle.xen_turns.proofs.WovenLemmas as lemma
use Rattle.xen_turns.proofs.several.made_appends.Goals as goal

pub returns-clause-events : goal.returns-clause-events
returns-clause-events c = lemma.events_append

pub returns-clause-turn : goal.returns-clause-turn
returns-clause-turn c = lemma.turn_append

pub returns-clause-order : goal.returns-clause-order
returns-clause-order c = lemma.order_append

pub returns-clause-below : goal.returns-clause-below
returns-clause-below c = lemma.below_append
