use Rattle.std.proofs.Common.{sym, ◌∙◌}
use Rattle.bpf_same.proofs.simulation.Simulation.is_stored_sum.Goals as goal

pub returns-then-self : goal.returns-then-self
returns-then-self c = λ t. record {
  alone = c.if-self.true;
  old = c.in-Some.old;
  there = sym c.insn_at.ensures ∙ c.in-Some.is;
  does = c.is_added_store.ensures t;
}
