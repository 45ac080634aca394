use Rattle.bpf_same.proofs.ContentLemmas.{others_stand, sum_if}
use Rattle.bpf_same.proofs.content.Addition.number_after.Goals as goal

pub returns-then-is : goal.returns-then-is
returns-then-is c = sum_if c.args.self.address c.args.address c.args.number c.args.self.by c.plus.result (c.is.ensures c.if-is.true) c.plus.ensures

pub returns-then-is_apart : goal.returns-then-is_apart
returns-then-is_apart c = λ f h h' b v k is adds change. others_stand f h h' b v c.args.self.address c.args.address c.args.number (c.is_apart.ensures c.if-is_apart.true) k is change
