use Rattle.xen_turns.proofs.WovenLemmas as lemma
use Rattle.xen_turns.proofs.several.order_appends.Goals as goal

pub returns : goal.returns
returns c = lemma.rising_append
