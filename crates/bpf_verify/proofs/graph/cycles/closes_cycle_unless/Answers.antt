use Rattle.bpf_verify.proofs.OrderLemmas.{ordered_closes}
use Rattle.bpf_verify.proofs.graph.cycles.closes_cycle_unless.Goals as goal

pub returns-then-ordered-clause-closes : goal.returns-then-ordered-clause-closes
returns-then-ordered-clause-closes c = (λ e. cc, λ closes. absurd (ordered_closes c.args.code.now c.args.pc (c.requires.ordered.0 c.if-ordered.true) closes))
