use Rattle.std.proofs.Common.{◌∙◌, rules}
use Rattle.std.proofs.lemmas.Iterator.{YieldsList-from_slice}
use Rattle.std.proofs.lemmas.Iterator.Search.{any_from_yields_List}
use Rattle.toml.specs.View.{view}
use Rattle.toml.specs.declared.value.Value.{Value}
use Rattle.xdp_load.proofs.RowLemmas.{any_map}
use Rattle.xdp_load.specs.Document.{is_no_number}
use Rattle.xdp_load.proofs.values.has_other.Goals as goal

pub returns : goal.returns
returns c =
    let test = λ (v : Value). is_no_number (view v) in
    any_from_yields_List test _ _ _ c.any.ensures.ran (YieldsList-from_slice c.args.values.now cc) (λ x b q k. search rules)
    ∙ any_map is_no_number view c.args.values.now
