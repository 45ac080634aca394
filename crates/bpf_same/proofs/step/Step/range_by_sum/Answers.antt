use Rattle.std.proofs.Common.{sym, ◌∙◌}
use Rattle.bpf_note.specs.Parts.{facts}
use Rattle.bpf_same.proofs.BoundLemmas.{summed_if}
use Rattle.bpf_same.proofs.step.Step.range_by_sum.Goals as goal

pub returns-in-Some-range_by_note : goal.returns-in-Some-range_by_note
returns-in-Some-range_by_note c =
    let s = c.args.self.now in
    summed_if s.insn s.stutters s.low (facts s.after.now) s.before.now c.args.form c.in-Some-minus.rest c.new_form.result c.args.register c.in-Some.bound c.in-Some-range_by_note.range c.added.result c.requires (sym c.bound.ensures ∙ c.in-Some.is)
    c.new_form.ensures c.in-Some-minus.ensures c.in-Some-range_by_note.ensures c.added.ensures
