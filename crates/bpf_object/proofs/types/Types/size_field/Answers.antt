use Rattle.std.proofs.Common.{subst}
use Rattle.bpf_object.specs.declared.definition.MapField.{MapField}
use Rattle.bpf_object.specs.Definition.{HasField}
use Rattle.bpf_object.proofs.types.Types.size_field.Goals as goal

pub returns-in-Some-clause-ok : goal.returns-in-Some-clause-ok
returns-in-Some-clause-ok c = record {
  said = c.in_ok-said.said;
  behind = c.in_ok-behind.behind;
  says = subst (λ (f : MapField). HasField c.args.self.now c.args.row f c.in_ok-said.said) c.size.ensures c.in_ok-said.ensures.ok;
  points = c.in_ok-behind.ensures.ok;
  same = c.in-Some.ensures.some;
}

pub returns-in-None-clause-err : goal.returns-in-None-clause-err
returns-in-None-clause-err c = record {
  said = c.in_ok-said.said;
  behind = c.in_ok-behind.behind;
  says = subst (λ (f : MapField). HasField c.args.self.now c.args.row f c.in_ok-said.said) c.size.ensures c.in_ok-said.ensures.ok;
  points = c.in_ok-behind.ensures.ok;
  apart = c.in-None.ensures.none;
}
