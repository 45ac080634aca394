use Rattle.std.proofs.Common.{◌∙◌, rules}
use Rattle.std.specs.Ordering.{int_eq}
use Rattle.std.proofs.lemmas.Iterator.{YieldsList-from_slice}
use Rattle.std.proofs.lemmas.Iterator.Search.{any_from_yields_List}
use Rattle.xdp_load.proofs.RowLemmas.{any_map}
use Rattle.xdp_load.specs.Seen.{reloc_seen}
use Rattle.xdp_load.specs.declared.kinds.RelocRow.{RelocRow}
use Rattle.xdp_load.proofs.relocations.is_taken.Goals as goal

pub returns : goal.returns
returns c =
    let slot = c.args.slot in
    let test = λ (r : RelocRow). int_eq slot r.slot in
    any_from_yields_List test _ _ _ c.any.ensures.ran (YieldsList-from_slice c.args.rows.now cc) (λ x b q k. search rules)
    ∙ any_map (λ r. int_eq slot r.slot) reloc_seen c.args.rows.now
