use Rattle.std.proofs.Common.{◌≡◌, None, Some, sym, ap, ◌∙◌}
use Rattle.bpf_same.specs.LinearForms.{total}
use Rattle.bpf_same.proofs.RoomLemmas.{some_same}
use Rattle.bpf_same.proofs.start.is_itself.Goals as goal

pub returns-in-Some : goal.returns-in-Some
returns-in-Some c = λ t s e f w.
    let same : c.in-Some.form ≡ s = some_same (sym c.in-Some.is ∙ (c.old_form.ensures ∙ e)) in
    ap (total f) (sym same ∙ c.is.ensures t) ∙ c.held.ensures f w

pub returns-in-None : goal.returns-in-None
returns-in-None c = λ t s e f w.
    let wrong : None ≡ Some s = sym c.in-None.is ∙ (c.old_form.ensures ∙ e) in
    absurd (cc)
