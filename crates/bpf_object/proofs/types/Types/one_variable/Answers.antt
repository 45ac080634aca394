use Rattle.std.proofs.Common.{◌<◌, arith}
use Rattle.bpf_object.specs.Map.{IsVariable}
use Rattle.bpf_object.proofs.OneLemmas.{only, only_below}
use Rattle.bpf_object.proofs.types.Types.one_variable.Goals as goal

pub returns-in-Some-next_variable-clause-err : goal.returns-in-Some-next_variable-clause-err
returns-in-Some-next_variable-clause-err c =
    let lt : c.in-Some.first < c.in-Some-next_variable.second = omega (arith, c.in-Some-next_variable.ensures.from) in (
      c.in-Some.ensures.some,
      c.in-Some-next_variable.ensures.some,
      lt,
      only_below (IsVariable c.args.self.now c.args.row c.args.name.now) c.in-Some.first c.in-Some-next_variable.second c.in-Some.ensures.before c.in-Some-next_variable.ensures.before,
    )

pub returns-in-None-clause-ok : goal.returns-in-None-clause-ok
returns-in-None-clause-ok c = record {
  is = c.in-Some.ensures.some;
  one = only (IsVariable c.args.self.now c.args.row c.args.name.now) c.in-Some.first c.in-Some.ensures.before c.in-None.ensures.none;
}
