use Rattle.std.proofs.Common.{◌∙◌, rules}
use Rattle.std.specs.Str.{bytes_eq}
use Rattle.std.proofs.lemmas.Iterator.{YieldsList-from_slice}
use Rattle.std.proofs.lemmas.Iterator.Search.{any_from_yields_List}
use Rattle.xdp_load.proofs.RowLemmas.{any_map}
use Rattle.xdp_load.specs.declared.kinds.MapRow.{MapRow}
use Rattle.xdp_load.proofs.names.is_repeated.Goals as goal

pub returns : goal.returns
returns c =
    let name = c.args.name.now in
    let test = λ (m : MapRow). bytes_eq name m.name.now in
    any_from_yields_List test _ _ _ c.any.ensures.ran (YieldsList-from_slice c.args.rows.now cc) (λ x b q k. search rules)
    ∙ any_map (bytes_eq name) (λ m. m.name.now) c.args.rows.now
