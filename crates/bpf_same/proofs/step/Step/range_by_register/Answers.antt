use Rattle.bpf_note.specs.Parts.{facts}
use Rattle.bpf_same.proofs.BoundLemmas.{registered_if}
use Rattle.bpf_same.proofs.step.Step.range_by_register.Goals as goal

pub returns-in-Some-range_of : goal.returns-in-Some-range_of
returns-in-Some-range_of c =
    let s = c.args.self.now in
    registered_if s.insn s.stutters s.low (facts s.after.now) s.before.now c.args.form c.in-Some.there c.args.register c.in-Some-range_of.range.low c.in-Some-range_of.range.high c.register.result c.range_by.result c.requires
    c.in-Some.ensures c.register.ensures.value c.in-Some-range_of.ensures c.range_by.ensures
