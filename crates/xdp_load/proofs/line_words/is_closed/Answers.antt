use Rattle.std.proofs.Common.{◌==◌, ◌||◌, ap, false, rules}
use Rattle.std.proofs.lemmas.Iterator.{YieldsList-from_slice}
use Rattle.std.proofs.lemmas.Iterator.Search.{find_from_yields_List}
use Rattle.std.specs.Option.{option_map_or}
use Rattle.xdp_load.proofs.line_words.is_closed.Goals as goal

pub returns-in-Some : goal.returns-in-Some
returns-in-Some c =
    let found = find_from_yields_List (λ b. b == 93 || b == 44) _ _ c.find.result c.find.ensures.ran (YieldsList-from_slice c.args.text.now cc) (λ x b q k. search rules) in
    ap (λ o. option_map_or (λ b. b == 93) o false) (rw c.in-Some.is at found)

pub returns-in-None : goal.returns-in-None
returns-in-None c =
    let found = find_from_yields_List (λ b. b == 93 || b == 44) _ _ c.find.result c.find.ensures.ran (YieldsList-from_slice c.args.text.now cc) (λ x b q k. search rules) in
    ap (λ o. option_map_or (λ b. b == 93) o false) (rw c.in-None.is at found)
