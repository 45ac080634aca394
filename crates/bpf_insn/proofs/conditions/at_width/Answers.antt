use Rattle.bpf_insn.proofs.OperationLemmas.{is_met_low}
use Rattle.bpf_insn.proofs.conditions.at_width.Goals as goal

pub returns-else-wide : goal.returns-else-wide
returns-else-wide c = let low = is_met_low c.args.cond c.args.a c.args.b in cc
