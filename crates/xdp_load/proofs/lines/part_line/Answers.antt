use Rattle.std.proofs.Common.{◌+◌, ◌∙◌, ap}
use Rattle.std.specs.Option.{option_map_or}
use Rattle.xdp_load.proofs.LineLemmas.{below_map}
use Rattle.xdp_load.proofs.lines.part_line.Goals as goal

pub returns-in-Some-pair_line-clause-value : goal.returns-in-Some-pair_line-clause-value
returns-in-Some-pair_line-clause-value c =
    let h = c.args.header in
    let found = c.in-Some-pair_line.ensures.value ∙ below_map c.in-Some.key.now c.args.lines.now (h + 1) in
    rw c.in-Some.is (ap (λ o. option_map_or (λ k. h + 1 + k) o h) found)

pub returns-in-None-clause-value : goal.returns-in-None-clause-value
returns-in-None-clause-value c =
    let h = c.args.header in
    let none = c.in-None.ensures.value ∙ below_map c.in-Some.key.now c.args.lines.now (h + 1) in
    rw c.in-Some.is (ap (λ o. option_map_or (λ k. h + 1 + k) o h) none)
