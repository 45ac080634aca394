use Rattle.std.proofs.Common.{◌≤◌, ◌∷◌, [], length, refl, sym, ap, ◌∙◌, arith}
use Rattle.std.specs.Prelude.{slice_index}
use Rattle.xen_host.specs.LentWords.{lent_words}
use Rattle.xen_host.proofs.FedLemmas.{take_two}
use Rattle.xen_host.proofs.LentWordLemmas.{lent_length}
use Rattle.xen_host.proofs.host.OpsHost.two.Goals as goal

pub returns-clause-given : goal.returns-clause-given
returns-clause-given c =
    let lent = lent_words c.args.self.now.words.now in
    let some : 2 ≤ length lent = omega (arith, lent_length c.args.self.now.words.now, c.requires.2) in
    (ap (λ w. w ∷ c.lent-2.result ∷ []) c.lent.ensures ∙ ap (λ w. slice_index lent 0 ∷ w ∷ []) c.lent-2.ensures ∙ sym (take_two lent some), refl)
