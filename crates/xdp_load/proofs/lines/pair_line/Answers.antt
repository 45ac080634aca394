use Rattle.std.proofs.Common.{◌∙◌, Bor, not, rules}
use Rattle.std.proofs.lemmas.Iterator.{YieldsList-from_slice}
use Rattle.std.proofs.lemmas.Iterator.Search.{YieldsList-from_take_while, position_from_yields_List}
use Rattle.xdp_load.proofs.LineLemmas.{pair_map}
use Rattle.xdp_load.specs.Document.{Text}
use Rattle.xdp_load.specs.Lines.{is_header, is_pair}
use Rattle.xdp_load.proofs.lines.pair_line.Goals as goal

pub returns-clause-value : goal.returns-clause-value
returns-clause-value c =
    let key = c.args.key.now in
    let ls = c.args.lines.now in
    let before = λ (l : Bor Text). not (is_header l.now) in
    let test = λ (l : Bor Text). is_pair key l.now in
    position_from_yields_List test _ _ c.position.result c.position.ensures.ran
    (YieldsList-from_take_while _ before (YieldsList-from_slice ls cc) c.take_while.ensures.closure c.take_while.ensures.done (λ x b q k. search rules))
    (λ x b q k. search rules)
    ∙ pair_map key ls
