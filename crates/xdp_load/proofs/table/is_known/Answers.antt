use Rattle.std.proofs.Common.{rules}
use Rattle.std.specs.Str.{bytes_eq}
use Rattle.std.proofs.lemmas.Iterator.{YieldsList-from_slice}
use Rattle.std.proofs.lemmas.Iterator.Search.{any_from_yields_List}
use Rattle.xdp_load.specs.Keys.{name}
use Rattle.xdp_load.specs.declared.key.Key.{Key}
use Rattle.xdp_load.proofs.table.is_known.Goals as goal

pub returns : goal.returns
returns c =
    let test = λ (k : Key). bytes_eq c.args.key.now (name k) in
    any_from_yields_List test _ _ _ c.any.ensures.ran (YieldsList-from_slice c.args.known.now cc) (λ x b q k. search rules)
