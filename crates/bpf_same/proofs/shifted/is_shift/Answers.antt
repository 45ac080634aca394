use Rattle.std.proofs.Common.{◌∙◌, ap, Bool, true}
use Rattle.bpf_insn.specs.declared.alu_op.AluOp.{AluOp}
use Rattle.bpf_insn.specs.declared.alu_op.AluOp.TheVariants as op
use Rattle.bpf_insn.specs.declared.insn.Insn.TheVariants.{Alu}
use Rattle.bpf_same.proofs.PreserveLemmas.{same_number}
use Rattle.bpf_same.proofs.shifted.is_shift.Goals as goal

pub returns-then-is_shift_left : goal.returns-then-is_shift_left
returns-then-is_shift_left c = λ t.
    let a = c.in-Alu in
    let k = c.is_shift_left.ensures c.if-is_shift_left.true in
    record {
      dst = a.dst;
      is = a.is ∙ (ap (λ (o : AluOp). Alu o a.wide a.dst a.src) k.0 ∙ (ap (λ (w : Bool). Alu op.Lsh w a.dst a.src) k.1 ∙ ap (Alu op.Lsh true a.dst) k.2));
      register = same_number _ _ t ∙ c.number.ensures.number;
    }
