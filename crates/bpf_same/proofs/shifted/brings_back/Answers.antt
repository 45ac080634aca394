use Rattle.std.proofs.Common.{sym, subst}
use Rattle.bpf_insn.specs.declared.alu_op.AluOp.{AluOp}
use Rattle.bpf_same.specs.Stepped.{BringsBack}
use Rattle.bpf_same.proofs.ShiftedLemmas.{rsh_back, arsh_back}
use Rattle.bpf_same.proofs.shifted.brings_back.Goals as goal

pub returns-in-Rsh : goal.returns-in-Rsh
returns-in-Rsh c = λ t. subst (λ (o : AluOp). BringsBack o) (sym c.in-Rsh.is) rsh_back

pub returns-in-Arsh : goal.returns-in-Arsh
returns-in-Arsh c = λ t. subst (λ (o : AluOp). BringsBack o) (sym c.in-Arsh.is) arsh_back
