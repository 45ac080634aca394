use Rattle.std.proofs.Common.{◌≡◌, ◌∙◌, false, true, drop, map, sym}
use Rattle.xdp_load.proofs.RowLemmas.{bad_more, rest_is}
use Rattle.xdp_load.specs.Limits.{is_bad_first}
use Rattle.xdp_load.proofs.names.bad_name.Goals as goal

pub loop-i-preserved : goal.loop-i-preserved
loop-i-preserved c =
    let more = bad_more (λ m. m.name.now) c.args.rows.now c.loop-i.i c.loop-i-test.true in
    let free : is_bad_first (map (λ m. m.name.now) (drop c.loop-i.i c.args.rows.now)) ≡ false = sym (rw (rest_is c.args.rows.now c.loop-i.i) at c.is_bad_first.ensures) ∙ c.if-is_bad_first.false in
    sym (rw free at more) ∙ c.loop-i.invariant

pub returns-then-is_bad_first : goal.returns-then-is_bad_first
returns-then-is_bad_first c =
    let more = bad_more (λ m. m.name.now) c.args.rows.now c.loop-i.i c.loop-i-test.true in
    let bad : is_bad_first (map (λ m. m.name.now) (drop c.loop-i.i c.args.rows.now)) ≡ true = sym (rw (rest_is c.args.rows.now c.loop-i.i) at c.is_bad_first.ensures) ∙ c.if-is_bad_first.true in
    sym (rw bad at more) ∙ c.loop-i.invariant
