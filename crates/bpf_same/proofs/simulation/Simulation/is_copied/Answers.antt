use Rattle.std.proofs.Common.{sym, ◌∙◌}
use Rattle.bpf_same.proofs.simulation.Simulation.is_copied.Goals as goal

pub returns-then-does_alike : goal.returns-then-does_alike
returns-then-does_alike c = λ t. record {
  old = c.in-Some.old;
  there = sym c.insn_at.ensures ∙ c.in-Some.is;
  does = c.does_alike.ensures c.if-does_alike.true;
  shares = c.is_shared.ensures t;
}
