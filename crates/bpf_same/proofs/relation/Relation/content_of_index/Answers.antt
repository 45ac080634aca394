use Rattle.std.proofs.Common.{sym, ◌∙◌, subst}
use Rattle.bpf_same.specs.declared.linear_form.LinearForm.{LinearForm}
use Rattle.bpf_same.specs.Contents.{Stands}
use Rattle.bpf_same.proofs.relation.Relation.content_of_index.Goals as goal

pub returns-then-is : goal.returns-then-is
returns-then-is c = λ f h k.
    subst (λ (s : LinearForm). Stands f h s c.in-Some.content.number) (c.is.ensures c.if-is.true) (k c.args.index c.in-Some.content c.requires (sym c.content.ensures ∙ c.in-Some.is))
