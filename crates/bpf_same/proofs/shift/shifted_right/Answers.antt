use Rattle.std.proofs.Common.{arith, ◌<◌, ◌≤◌, ◌^◌, refl}
use Rattle.std.proofs.lemmas.Bool.Decides.{nat_tests}
use Rattle.bpf_same.proofs.ShiftLemmas.{small_right, great_right}
use Rattle.bpf_same.proofs.shift.shifted_right.Goals as goal

pub returns-then-one-le-MOST : goal.returns-then-one-le-MOST
returns-then-one-le-MOST c =
    let few : c.args.other.low < 64 = grind (arith, nat_tests, c.if-other-from.false, c.from.ensures) in
    let small : c.args.one.high < 2 ^ 63 = grind (arith, nat_tests, c.if-one-le-MOST.true) in
    (c.if-other.false, few, small_right c.args.one.low c.args.one.high c.args.other.low _ _ small few refl refl)

pub returns-then-one-gt-MOST : goal.returns-then-one-gt-MOST
returns-then-one-gt-MOST c =
    let few : c.args.other.low < 64 = grind (arith, nat_tests, c.if-other-from.false, c.from.ensures) in
    let great : 2 ^ 63 ≤ c.args.one.low = grind (arith, nat_tests, c.if-one-gt-MOST.true) in
    (c.if-other.false, few, great_right c.args.one.low c.args.one.high c.args.other.low _ _ (omega arith) great few refl refl)
