use Rattle.std.proofs.Common.{◌≤◌, ◌∷◌, [], length, drop, refl, sym, ap, ◌∙◌, arith}
use Rattle.std.specs.Prelude.{slice_index}
use Rattle.std.proofs.lemmas.List.{get_or-drop, length-drop}
use Rattle.xen_host.specs.LentWords.{lent_words}
use Rattle.xen_host.proofs.FedLemmas.{take_three}
use Rattle.xen_host.proofs.LentWordLemmas.{lent_length}
use Rattle.xen_host.proofs.lane_host.LaneHostHost.three.Goals as goal

pub returns-clause-given : goal.returns-clause-given
returns-clause-given c =
    let own = c.args.self.now.own in
    let l = lent_words c.args.self.now.words.now in
    let m = drop own l in
    let some : 3 ≤ length m = omega (arith, length-drop own l, lent_length c.args.self.now.words.now, c.requires.2) in (
      ap (λ w. w ∷ c.lent-2.result ∷ c.lent-3.result ∷ []) (c.lent.ensures ∙ sym (get_or-drop own l 0 0))
          ∙ ap (λ w. slice_index m 0 ∷ w ∷ c.lent-3.result ∷ []) (c.lent-2.ensures ∙ sym (get_or-drop own l 1 0))
          ∙ ap (λ w. slice_index m 0 ∷ slice_index m 1 ∷ w ∷ []) (c.lent-3.ensures ∙ sym (get_or-drop own l 2 0)) ∙ sym (take_three m some),
      refl,
    )
