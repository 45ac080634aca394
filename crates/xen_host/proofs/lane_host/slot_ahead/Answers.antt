use Rattle.std.proofs.Common.{◌≡◌, ◌≤◌, ◌+◌, ◌*◌, ◌∷◌, [], length, drop, sym, ap, ◌∙◌, arith}
use Rattle.std.specs.Prelude.{slice_index}
use Rattle.std.proofs.lemmas.List.{get_or-drop, length-drop}
use Rattle.xen_host.specs.LentWords.{lent_words}
use Rattle.xen_host.proofs.FedLemmas.{take_three}
use Rattle.xen_host.proofs.LentWordLemmas.{lent_length}
use Rattle.xen_host.proofs.lane_host.slot_ahead.Goals as goal

pub returns : goal.returns
returns c =
    let from = 3 * c.args.number in
    let l = lent_words c.args.words.now in
    let m = drop from l in
    let some : 3 ≤ length m = omega (arith, length-drop from l, lent_length c.args.words.now, c.requires.inside) in
    let zero : from ≡ from + 0 = omega arith in
    ap (λ w. w ∷ c.lent_word-2.result ∷ c.lent_word-3.result ∷ []) (c.lent_word.ensures ∙ ap (λ k. slice_index l k) zero ∙ sym (get_or-drop from l 0 0))
    ∙ ap (λ w. slice_index m 0 ∷ w ∷ c.lent_word-3.result ∷ []) (c.lent_word-2.ensures ∙ sym (get_or-drop from l 1 0))
    ∙ ap (λ w. slice_index m 0 ∷ slice_index m 1 ∷ w ∷ []) (c.lent_word-3.ensures ∙ sym (get_or-drop from l 2 0)) ∙ sym (take_three m some)
