use Rattle.std.proofs.Common.{◌∙◌, String, Global, rules, string_bytes}
use Rattle.std.specs.Str.{bytes_eq}
use Rattle.std.proofs.lemmas.Iterator.{YieldsList-from_slice}
use Rattle.std.proofs.lemmas.Iterator.Search.{position_from_yields_List}
use Rattle.xdp_object.proofs.OriginalLemmas.{position_map}
use Rattle.xdp_object.proofs.original.GivenMaps.position.Goals as goal

pub returns : goal.returns
returns c =
    let name = c.args.name.now in
    let names = c.args.self.now.names.now in
    let test = λ (s : String Global). bytes_eq name (string_bytes s) in
    position_from_yields_List test _ _ _ c.position.ensures.ran (YieldsList-from_slice names cc) (λ x b q k. search rules)
    ∙ position_map (bytes_eq name) string_bytes names
