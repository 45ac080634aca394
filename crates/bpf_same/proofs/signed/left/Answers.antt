use Rattle.std.proofs.Common.{arith}
use Rattle.std.proofs.lemmas.Bool.Decides.{nat_tests}
use Rattle.bpf_same.proofs.SignedLemmas.{greater_left, less_or_equal_left}
use Rattle.bpf_same.proofs.signed.left.Goals as goal

pub returns-in-SignedGreater : goal.returns-in-SignedGreater
returns-in-SignedGreater c = greater_left c.args.cond c.args.is_met c.args.range.low c.args.range.high c.args.constant c.left_by_bound-in-SignedGreater.result c.in-SignedGreater.is (λ e. grind (arith, nat_tests, e, c.if-constant-ne-MOST.true)) (omega arith) (omega arith) c.left_by_bound-in-SignedGreater.ensures

pub returns-in-SignedLessOrEqual : goal.returns-in-SignedLessOrEqual
returns-in-SignedLessOrEqual c = less_or_equal_left c.args.cond c.args.is_met c.args.range.low c.args.range.high c.args.constant c.left_by_bound-in-SignedLessOrEqual.result c.in-SignedLessOrEqual.is (λ e. grind (arith, nat_tests, e, c.if-constant-ne-MOST-2.true)) (omega arith) (omega arith) c.left_by_bound-in-SignedLessOrEqual.ensures
