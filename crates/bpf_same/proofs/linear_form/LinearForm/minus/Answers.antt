use Rattle.std.proofs.Common.{◌∙◌, sym, ap}
use Rattle.bpf_same.specs.declared.linear_form.LinearForm.{LinearForm}
use Rattle.bpf_same.specs.LinearForms.{total}
use Rattle.bpf_same.proofs.linear_form.LinearForm.minus.Goals as goal

pub returns-then-is : goal.returns-then-is
returns-then-is c = λ f. ap (λ (s : LinearForm). total f s) (sym (c.is.ensures c.if-is.true)) ∙ c.in-Some.ensures f
