use Rattle.std.proofs.Common.{ℕ, Option, subst, sym, ◌∙◌}
use Rattle.bpf_object.specs.Definition.{field_name, IsField, nothing, has}
use Rattle.bpf_object.proofs.types.Types.field.Goals as goal

pub returns-in_default-clause-ok : goal.returns-in_default-clause-ok
returns-in_default-clause-ok c =
    nothing
    (subst (λ (o : Option ℕ). IsField c.args.self.now c.args.row (field_name c.args.field) o) c.in_default.is c.in_ok-number.ensures.ok)

pub returns-in-Some-meaning-clause-ok : goal.returns-in-Some-meaning-clause-ok
returns-in-Some-meaning-clause-ok c =
    has c.in-Some.number c.in-Some-meaning.value
    (subst (λ (o : Option ℕ). IsField c.args.self.now c.args.row (field_name c.args.field) o) c.in-Some.is c.in_ok-number.ensures.ok)
    (sym c.meaning.ensures ∙ c.in-Some-meaning.is)
