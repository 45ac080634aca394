use Rattle.std.proofs.Common.{◌<◌, arith}
use Rattle.bpf_object.specs.Map.{IsMaps}
use Rattle.bpf_object.proofs.OneLemmas.{only, only_below}
use Rattle.bpf_object.proofs.types.Types.one_maps.Goals as goal

pub returns-in-Some-next_maps-clause-err : goal.returns-in-Some-next_maps-clause-err
returns-in-Some-next_maps-clause-err c =
    let lt : c.in-Some.first < c.in-Some-next_maps.second = omega (arith, c.in-Some-next_maps.ensures.from) in (
      c.in-Some.ensures.some,
      c.in-Some-next_maps.ensures.some,
      lt,
      only_below (IsMaps c.args.self.now) c.in-Some.first c.in-Some-next_maps.second c.in-Some.ensures.before c.in-Some-next_maps.ensures.before,
    )

pub returns-in-None-clause-ok : goal.returns-in-None-clause-ok
returns-in-None-clause-ok c = record {
  is = c.in-Some.ensures.some;
  one = only (IsMaps c.args.self.now) c.in-Some.first c.in-Some.ensures.before c.in-None.ensures.none;
}
