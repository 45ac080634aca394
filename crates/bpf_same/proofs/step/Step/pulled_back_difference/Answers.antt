use Rattle.std.proofs.Common.{sym, ap, ◌∙◌}
use Rattle.bpf_note.specs.Parts.{facts}
use Rattle.bpf_same.proofs.PreserveLemmas.{difference_back}
use Rattle.bpf_same.proofs.step.Step.pulled_back_difference.Goals as goal

pub returns : goal.returns
returns c =
    let s = c.args.self.now in
    difference_back s.insn s.stutters s.low (facts s.after.now) s.before.now c.args.dst c.args.src c.number-term.result c.args.form c.held.result c.in-Some.rest c.in-Some-pulled_back_by_terms.there c.in-Some-minus.less c.new_form-subtracted.result c.new_form.result c.plus.result c.requires c.number-term.ensures.number
    c.in-Some.ensures c.held.ensures c.in-Some-pulled_back_by_terms.ensures c.in-Some-minus.ensures (λ f g h. ap f (sym c.number.ensures.number) ∙ c.new_form-subtracted.ensures f g h) c.new_form.ensures c.plus.ensures
