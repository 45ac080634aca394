use Rattle.std.proofs.Common.{◌∙◌, rules}
use Rattle.std.specs.Str.{bytes_eq}
use Rattle.std.proofs.lemmas.Iterator.{YieldsList-from_slice}
use Rattle.std.proofs.lemmas.Iterator.Search.{position_from_yields_List}
use Rattle.xdp_load.proofs.RowLemmas.{position_map}
use Rattle.xdp_load.specs.declared.kinds.MapRow.{MapRow}
use Rattle.xdp_load.proofs.relocations.map_number.Goals as goal

pub returns-clause-value : goal.returns-clause-value
returns-clause-value c =
    let name = c.args.name.now in
    let test = λ (m : MapRow). bytes_eq name m.name.now in
    position_from_yields_List test _ _ _ c.position.ensures.ran (YieldsList-from_slice c.args.maps.now cc) (λ x b q k. search rules)
    ∙ position_map (bytes_eq name) (λ m. m.name.now) c.args.maps.now
