use Rattle.std.proofs.Common.{◌≤◌, ◌∷◌, [], length, refl, sym, ap, ◌∙◌, arith}
use Rattle.xen_host.specs.LentWords.{lent_words}
use Rattle.xen_host.proofs.FedLemmas.{take_one}
use Rattle.xen_host.proofs.LentWordLemmas.{lent_length}
use Rattle.xen_host.proofs.host.OpsHost.word.Goals as goal

pub returns-clause-given : goal.returns-clause-given
returns-clause-given c =
    let lent = lent_words c.args.self.now.words.now in
    let some : 1 ≤ length lent = omega (arith, lent_length c.args.self.now.words.now, c.requires.2) in
    (ap (λ w. w ∷ []) c.lent.ensures ∙ sym (take_one lent some), refl)
