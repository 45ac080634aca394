use Rattle.std.proofs.Common.{rules, ◌≡◌, pos, Some, true}
use Rattle.std.specs.Prelude.{slice_get}
use Rattle.bpf_insn.specs.declared.alu_op.AluOp.TheVariants.{Mov}
use Rattle.bpf_insn.specs.declared.insn.Insn.TheVariants.{Alu}
use Rattle.bpf_insn.specs.declared.operand.Operand.TheVariants.{Immediate}
use Rattle.bpf_same.specs.Fused.{IsLoaded}
use Rattle.bpf_same.specs.Plans.{plan_of}
use Rattle.bpf_same.proofs.InsideLemmas.{load_counts}
use Rattle.bpf_same.proofs.fused.Draft.is_count_from.Goals as goal

pub returns : goal.returns
returns c = λ t.
    let new : slice_get c.args.self.now.new.now c.args.at ≡ Some (Alu Mov true c.args.dst (Immediate (pos 0))) = search rules in
    let loaded : IsLoaded (plan_of c.args.self.now) c.args.dst c.args.base c.args.off c.args.at c.in-Some.count = search rules in
    load_counts (plan_of c.args.self.now) c.args.dst c.args.base c.args.off c.args.at c.in-Some.count loaded c.requires.old new (c.reaches_store.ensures t)
