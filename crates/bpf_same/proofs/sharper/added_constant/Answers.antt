use Rattle.bpf_same.proofs.SharperLemmas.{added_one_if}
use Rattle.bpf_same.proofs.sharper.added_constant.Goals as goal

pub returns-then-other : goal.returns-then-other
returns-then-other c = added_one_if c.args.one.low c.args.one.high c.args.other.low c.args.other.high c.moved.result c.if-other.true c.moved.ensures
