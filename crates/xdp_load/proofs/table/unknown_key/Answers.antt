use Rattle.std.proofs.Common.{◌≡◌, ◌∙◌, true, false, Some, option_map, rules, sym, ap}
use Rattle.std.specs.BTreeMap.{keys}
use Rattle.std.proofs.lemmas.Iterator.{first_from_find}
use Rattle.std.proofs.lemmas.Iterator.Consumers.{YieldsList-from_rest}
use Rattle.xdp_load.proofs.KeyLemmas.{first_unknown, is_known, none_unknown}
use Rattle.xdp_load.proofs.table.unknown_key.Goals as goal

pub returns-in_err-key : goal.returns-in_err-key
returns-in_err-key c =
    let known = c.args.known.now in
    let found = first_from_find _ _ _ (λ k. is_known known k ≡ false) (λ k. is_known known k ≡ true) c.find.ensures.ran (YieldsList-from_rest (keys c.args.table.now) c.keys.ensures.rest) (λ x q k. search rules) (λ x q k. search rules) in
    ap (option_map (λ k. k.now)) c.from_residual.ensures ∙ sym (none_unknown known c.args.table.now.entries (rw c.in_err-key.was at found))

pub returns : goal.returns
returns c =
    let known = c.args.known.now in
    let found = first_from_find _ _ _ (λ k. is_known known k ≡ false) (λ k. is_known known k ≡ true) c.find.ensures.ran (YieldsList-from_rest (keys c.args.table.now) c.keys.ensures.rest) (λ x q k. search rules) (λ x q k. search rules) in
    let at = rw c.in_ok-key.was at found in
    ap Some c.as_str.ensures.value ∙ sym (first_unknown known c.args.table.now.entries at.1 c.in_ok-key.key.now at.2 at.4 at.3 at.0)
