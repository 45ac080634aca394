use Rattle.bpf_same.proofs.BoundLemmas.{span_if}
use Rattle.bpf_same.proofs.range.in_bound.Goals as goal

pub returns : goal.returns
returns c = span_if c.args.relation.now c.args.register c.new_form.result c.bounded.result c.requires c.new_form.ensures c.bounded.ensures
