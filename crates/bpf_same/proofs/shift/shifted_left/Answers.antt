use Rattle.std.proofs.Common.{arith, ◌<◌, refl}
use Rattle.std.proofs.lemmas.Bool.Decides.{nat_tests}
use Rattle.bpf_same.proofs.ShiftLemmas.{shifts_either}
use Rattle.bpf_same.proofs.shift.shifted_left.Goals as goal

pub returns : goal.returns
returns c =
    let few : c.args.other.high < 64 = grind (arith, nat_tests, c.if-other-from.false, c.from.ensures) in
    shifts_either c.args.one.low c.args.one.high c.args.other.low c.args.other.high _ _ (omega arith) few c.if-first-last.false c.if-last-ne0.either refl refl
