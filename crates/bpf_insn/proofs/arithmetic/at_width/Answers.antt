use Rattle.bpf_insn.proofs.OperationLemmas.{computed_low}
use Rattle.bpf_insn.proofs.arithmetic.at_width.Goals as goal

pub returns-else-wide : goal.returns-else-wide
returns-else-wide c = let low = computed_low c.args.op c.args.dst c.args.src in cc
