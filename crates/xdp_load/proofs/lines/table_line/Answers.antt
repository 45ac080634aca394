use Rattle.std.proofs.Common.{◌∙◌, Bor, rules}
use Rattle.std.proofs.lemmas.Iterator.{YieldsList-from_slice}
use Rattle.std.proofs.lemmas.Iterator.Search.{position_from_yields_List}
use Rattle.xdp_load.proofs.RowLemmas.{position_map}
use Rattle.xdp_load.specs.Document.{Text}
use Rattle.xdp_load.specs.Lines.{is_table}
use Rattle.xdp_load.proofs.lines.table_line.Goals as goal

pub returns-clause-value : goal.returns-clause-value
returns-clause-value c =
    let name = c.args.name.now in
    let test = λ (l : Bor Text). is_table name l.now in
    position_from_yields_List test _ _ c.position.result c.position.ensures.ran (YieldsList-from_slice c.args.lines.now cc) (λ x b q k. search rules)
    ∙ position_map (is_table name) (λ l. l.now) c.args.lines.now
