use Rattle.bpf_insn.proofs.FormLemmas.{jump_operand}
use Rattle.bpf_insn.proofs.slot.conditional.Goals as goal

pub returns-in_err-src-clause-none : goal.returns-in_err-src-clause-none
returns-in_err-src-clause-none c = rw c.from_residual-in_err-src.ensures (λ cond wide dst src off h. c.in_err-src.ensures.none src (jump_operand cond wide dst src off c.args.f h))
