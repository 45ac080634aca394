use Rattle.std.proofs.Common.{arith}
use Rattle.bpf_note.specs.Parts.{facts}
use Rattle.bpf_same.proofs.ShiftedLemmas.{back_if}
use Rattle.bpf_same.proofs.step.Step.brought_back.Goals as goal

pub returns-then-brings_back : goal.returns-then-brings_back
returns-then-brings_back c =
    let s = c.args.self.now in
    back_if s.insn s.stutters s.low (facts s.after.now) s.before.now c.args.op c.args.wide c.args.dst c.args.src c.number.result c.shifted_form.result c.requires c.if-wide.true (c.is_half.ensures c.if-is_half.true) (c.brings_back.ensures c.if-brings_back.true)
    c.number.ensures.number (omega (arith, c.number.ensures.high)) c.shifted_form.ensures
