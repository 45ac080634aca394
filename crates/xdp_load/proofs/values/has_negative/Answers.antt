use Rattle.std.proofs.Common.{◌∙◌, map, rules}
use Rattle.std.proofs.lemmas.Iterator.{YieldsList-from_slice}
use Rattle.std.proofs.lemmas.Iterator.Search.{any_from_yields_List}
use Rattle.toml.specs.View.{view}
use Rattle.toml.specs.declared.value.Value.{Value}
use Rattle.xdp_load.proofs.RowLemmas.{any_map}
use Rattle.xdp_load.specs.Document.{number_in}
use Rattle.xdp_load.specs.Values.{is_negative}
use Rattle.xdp_load.proofs.values.has_negative.Goals as goal

pub returns : goal.returns
returns c =
    let test = λ (v : Value). is_negative (number_in (view v)) in
    any_from_yields_List test _ _ _ c.any.ensures.ran (YieldsList-from_slice c.args.numbers.now cc) (λ x b q k. search rules)
    ∙ any_map (λ d. is_negative (number_in d)) view c.args.numbers.now
    ∙ any_map is_negative number_in (map view c.args.numbers.now)
