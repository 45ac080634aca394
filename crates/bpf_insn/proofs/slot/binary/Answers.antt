use Rattle.bpf_insn.proofs.FormLemmas.{alu_operand}
use Rattle.bpf_insn.proofs.slot.binary.Goals as goal

pub returns-in_err-src-clause-none : goal.returns-in_err-src-clause-none
returns-in_err-src-clause-none c = rw c.from_residual-in_err-src.ensures (λ op wide dst src h. c.in_err-src.ensures.none src (alu_operand op wide dst src c.args.f h))
