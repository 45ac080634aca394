use Rattle.std.proofs.Common.{arith, sym, ◌∙◌, subst, Option, ℕ, true}
use Rattle.bpf_insn.specs.declared.alu_op.AluOp.TheVariants as op
use Rattle.bpf_same.specs.LinearForms.{IsWord}
use Rattle.bpf_same.proofs.ComputeLemmas.{total_word, total_alone, moved, anded, computes_as, added_if, subtracted_if}
use Rattle.bpf_same.proofs.step.computed.Goals as goal

pub returns-in-Mov : goal.returns-in-Mov
returns-in-Mov c = λ f a b o e q k.
    moved a b o (computes_as c.args.op op.Mov c.args.wide true a b o c.in-Mov.is c.if-wide.true k) (subst (λ (b : Option ℕ). IsWord b) (sym q) (total_word f c.args.second)) ∙ q

pub returns-in-Add : goal.returns-in-Add
returns-in-Add c = added_if c.args.first c.args.second c.args.op c.args.wide c.plus.result c.in-Add.is c.if-wide-2.true c.plus.ensures

pub returns-in-Sub : goal.returns-in-Sub
returns-in-Sub c = subtracted_if c.args.first c.args.second c.args.op c.args.wide c.minus.result c.in-Sub.is c.if-wide-3.true c.minus.ensures

pub returns-in-And : goal.returns-in-And
returns-in-And c = λ f a b o e q k.
    anded a b o c.args.first.constant c.args.second.constant (computes_as c.args.op op.And c.args.wide true a b o c.in-And.is c.if-wide-4.true k)
    (e ∙ total_alone f c.args.first (let h = c.if-first-eq0.true in cc) (omega arith)) (q ∙ total_alone f c.args.second (let h = c.if-second-eq0.true in cc) (omega arith)) (omega arith) (omega arith) ∙ sym (c.constant.ensures f)
