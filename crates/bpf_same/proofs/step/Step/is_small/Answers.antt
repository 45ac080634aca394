use Rattle.std.proofs.Common.{arith}
use Rattle.bpf_note.specs.Parts.{facts}
use Rattle.bpf_same.proofs.ShiftedLemmas.{small_by}
use Rattle.bpf_same.proofs.step.Step.is_small.Goals as goal

pub returns-then-range-le-GREATEST : goal.returns-then-range-le-GREATEST
returns-then-range-le-GREATEST c = λ t.
    let s = c.args.self.now in
    small_by s.insn s.stutters s.low (facts s.after.now) s.before.now c.args.register c.args.form c.new_form-held.result c.in-Some.here c.in-Some-range_before.range c.new_form-held.ensures (c.is.ensures t) c.in-Some.ensures
    c.in-Some-range_before.ensures (omega (arith, c.if-range-le-GREATEST.true))
