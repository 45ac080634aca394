use Rattle.std.proofs.Common.{◌∙◌, rules, string_bytes, String}
use Rattle.std.specs.Str.{bytes_eq}
use Rattle.std.specs.Global.{Global}
use Rattle.std.proofs.lemmas.Iterator.{YieldsList-from_slice}
use Rattle.std.proofs.lemmas.Iterator.Search.{position_from_yields_List}
use Rattle.xdp_load.proofs.RowLemmas.{position_map}
use Rattle.xdp_program.proofs.names.number_in.Goals as goal

pub returns : goal.returns
returns c =
    let name = c.args.name.now in
    let test = λ (s : String Global). bytes_eq name (string_bytes s) in
    position_from_yields_List test _ _ _ c.position.ensures.ran (YieldsList-from_slice c.args.names.now cc) (λ x b q k. search rules)
    ∙ position_map (bytes_eq name) string_bytes c.args.names.now
