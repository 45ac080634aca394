use Rattle.xen_turns.proofs.WovenLemmas as lemma
use Rattle.xen_turns.proofs.several.one_turn_makes.Goals as goal

pub returns-clause-events : goal.returns-clause-events
returns-clause-events c = lemma.one_events

pub returns-clause-own : goal.returns-clause-own
returns-clause-own c = lemma.own_turn

pub returns-clause-others : goal.returns-clause-others
returns-clause-others c = lemma.other_turn

pub returns-clause-below : goal.returns-clause-below
returns-clause-below c = lemma.below_turn

pub returns-clause-rising : goal.returns-clause-rising
returns-clause-rising c = lemma.rising_turn
