use Rattle.std.proofs.Common.{subst, sym}
use Rattle.xen_turns.proofs.Figures.{FewSlots, none_more, one_more, turn_accesses, turn_most}
use Rattle.xen_turns.proofs.TouchedLemmas.{turn_touches}
use Rattle.xen_turns.proofs.laws.turns_are_bounded.Goals as goal

pub returns : goal.returns
returns c = record {
  accesses = λ w. turn_accesses w 1 (one_more w.offers);
  plain_accesses = λ w offers. turn_accesses w 0 (subst (λ o. FewSlots o 0) (sym offers) none_more);
  instructions = λ w s p new u t. (turn_most w s p new u t).steps;
  notices = λ w s p new u t. (turn_most w s p new u t).told;
  touches = turn_touches;
}
