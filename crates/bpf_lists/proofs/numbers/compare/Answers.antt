use Rattle.std.proofs.Common.{◌∙◌}
use Rattle.bpf_lists.proofs.ValueLemmas.{value_order}
use Rattle.bpf_lists.proofs.numbers.compare.Goals as goal

pub returns : goal.returns
returns c = c.cmp.ensures ∙ value_order c.args.a.now c.args.b.now c.requires (λ k. (c.type_inv.a k).fits) (λ k. (c.type_inv.b k).fits)
