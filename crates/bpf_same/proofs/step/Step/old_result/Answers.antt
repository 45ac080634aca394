use Rattle.std.proofs.Common.{arith, sym, ◌∙◌}
use Rattle.bpf_note.specs.Parts.{facts}
use Rattle.bpf_same.proofs.PreserveLemmas.{old_result_if}
use Rattle.bpf_same.proofs.step.Step.old_result.Goals as goal

pub returns-in-Some-old_operand : goal.returns-in-Some-old_operand
returns-in-Some-old_operand c =
    let s = c.args.self.now in
    old_result_if s.insn s.stutters s.low (facts s.after.now) s.before.now c.args.op c.args.wide c.args.dst c.args.src c.number.result c.in-Some.first c.in-Some-old_operand.second c.computed.result c.requires.insn c.requires.copied
    c.number.ensures.number (omega (arith, c.number.ensures.high)) (sym c.old_form.ensures ∙ c.in-Some.is) c.in-Some-old_operand.ensures c.computed.ensures
