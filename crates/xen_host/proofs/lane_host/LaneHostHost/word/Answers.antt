use Rattle.std.proofs.Common.{◌≤◌, ◌∷◌, [], length, drop, refl, sym, ap, ◌∙◌, arith}
use Rattle.std.proofs.lemmas.List.{get_or-drop, length-drop}
use Rattle.xen_host.specs.LentWords.{lent_words}
use Rattle.xen_host.proofs.FedLemmas.{take_one}
use Rattle.xen_host.proofs.LentWordLemmas.{lent_length}
use Rattle.xen_host.proofs.lane_host.LaneHostHost.word.Goals as goal

pub returns-clause-given : goal.returns-clause-given
returns-clause-given c =
    let own = c.args.self.now.own in
    let l = lent_words c.args.self.now.words.now in
    let some : 1 ≤ length (drop own l) = omega (arith, length-drop own l, lent_length c.args.self.now.words.now, c.requires.2) in
    (ap (λ w. w ∷ []) (c.lent.ensures ∙ sym (get_or-drop own l 0 0)) ∙ sym (take_one (drop own l) some), refl)
