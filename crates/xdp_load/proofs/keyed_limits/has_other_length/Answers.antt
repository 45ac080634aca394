use Rattle.std.proofs.Common.{◌∙◌, map, not, rules}
use Rattle.std.proofs.lemmas.Iterator.{YieldsList-from_slice}
use Rattle.std.proofs.lemmas.Iterator.Search.{any_from_yields_List}
use Rattle.toml.specs.View.{view}
use Rattle.toml.specs.declared.value.Value.{Value}
use Rattle.xdp_load.proofs.RowLemmas.{any_map}
use Rattle.xdp_load.specs.MapKeys.{is_row_of, text_in}
use Rattle.xdp_load.proofs.keyed_limits.has_other_length.Goals as goal

pub returns : goal.returns
returns c =
    let size = c.args.size in
    let test = λ (v : Value). not (is_row_of size (text_in (view v))) in
    any_from_yields_List test _ _ _ c.any.ensures.ran (YieldsList-from_slice c.args.rows.now cc) (λ x b q k. search rules)
    ∙ any_map (λ d. not (is_row_of size (text_in d))) view c.args.rows.now
    ∙ any_map (λ t. not (is_row_of size t)) text_in (map view c.args.rows.now)
