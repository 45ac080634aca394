use Rattle.std.proofs.Common.{arith}
use Rattle.bpf_same.proofs.SharperLemmas.{adds_if, unites_if, multiplies_if, masks_if}
use Rattle.bpf_same.proofs.ShiftLemmas.{left_if, right_if}
use Rattle.bpf_same.proofs.sharper.combined.Goals as goal

pub returns-in-Add : goal.returns-in-Add
returns-in-Add c = adds_if c.args.op c.args.one.low c.args.one.high c.args.other.low c.args.other.high c.added.result c.in-Add.is c.added.ensures

pub returns-in-Or : goal.returns-in-Or
returns-in-Or c = unites_if c.args.op c.args.one.low c.args.one.high c.args.other.low c.args.other.high c.united.result c.in-Or.is (omega arith) (omega arith) c.united.ensures

pub returns-in-Mul : goal.returns-in-Mul
returns-in-Mul c = multiplies_if c.args.op c.args.one.low c.args.one.high c.args.other.low c.args.other.high c.multiplied.result c.in-Mul.is (omega arith) (omega arith) c.multiplied.ensures

pub returns-in-And : goal.returns-in-And
returns-in-And c = masks_if c.args.op c.args.one.low c.args.one.high c.args.other.low c.args.other.high c.masked.result c.in-And.is (omega arith) (omega arith) c.masked.ensures

pub returns-in-Lsh : goal.returns-in-Lsh
returns-in-Lsh c = left_if c.args.op c.args.one.low c.args.one.high c.args.other.low c.args.other.high c.shifted_left.result c.in-Lsh.is c.shifted_left.ensures

pub returns-in-Arsh : goal.returns-in-Arsh
returns-in-Arsh c = right_if c.args.op c.args.one.low c.args.one.high c.args.other.low c.args.other.high c.shifted_right.result c.in-Arsh.is c.shifted_right.ensures
