use Rattle.bpf_note.specs.Parts.{facts}
use Rattle.bpf_same.proofs.PreserveLemmas.{new_result_if, cleared}
use Rattle.bpf_same.proofs.step.Step.new_result.Goals as goal

pub returns-then-is_cleared : goal.returns-then-is_cleared
returns-then-is_cleared c =
    let s = c.args.self.now in
    cleared s.insn s.stutters s.low (facts s.after.now) s.before.now c.args.op c.args.wide c.args.dst c.args.src c.constant.result c.requires (c.is_cleared.ensures c.if-is_cleared.true) c.constant.ensures

pub returns : goal.returns
returns c =
    let s = c.args.self.now in
    new_result_if s.insn s.stutters s.low (facts s.after.now) s.before.now c.args.op c.args.wide c.args.dst c.args.src c.number.result c.new_form.result c.new_operand.result c.computed.result c.requires c.number.ensures.number
    c.new_form.ensures c.new_operand.ensures c.computed.ensures
