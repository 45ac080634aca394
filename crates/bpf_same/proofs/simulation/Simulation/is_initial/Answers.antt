use Rattle.std.proofs.Common.{sym, ◌∙◌}
use Rattle.bpf_same.proofs.simulation.Simulation.is_initial.Goals as goal

pub returns-then-is_without_contents : goal.returns-then-is_without_contents
returns-then-is_without_contents c = λ t. record {
  first = c.in-Some.relation;
  here = sym c.relation_at.ensures ∙ c.in-Some.is;
  at_start = c.holds_at_entry.ensures c.if-not-holds_at_entry.false;
  contents = c.is_without_contents.ensures c.if-is_without_contents.true;
  start = c.simulates_start.ensures t;
}
