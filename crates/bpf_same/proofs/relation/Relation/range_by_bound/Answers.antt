use Rattle.std.proofs.Common.{sym, ◌∙◌}
use Rattle.bpf_same.proofs.BoundLemmas.{bounded_if}
use Rattle.bpf_same.proofs.relation.Relation.range_by_bound.Goals as goal

pub returns-in-Some : goal.returns-in-Some
returns-in-Some c = bounded_if c.args.self.now c.args.register c.args.form c.new_form.result c.in-Some.range c.range_by.result c.requires (sym c.bound.ensures ∙ c.in-Some.is) c.new_form.ensures c.range_by.ensures
