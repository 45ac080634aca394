use Rattle.std.proofs.Common.{refl, arith}
use Rattle.bpf_same.proofs.BoundLemmas.{range_moved}
use Rattle.bpf_same.proofs.range.range_by.Goals as goal

pub returns : goal.returns
returns c = range_moved c.args.form c.args.there c.args.range.low c.args.range.high _ c.moved.result c.if-form-there.false (omega arith) (omega arith) refl c.moved.ensures
