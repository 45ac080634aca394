use Rattle.bpf_note.specs.Parts.{facts}
use Rattle.std.proofs.Common.{sym, ◌∙◌}
use Rattle.bpf_same.proofs.ContentLemmas.{value_beside}
use Rattle.bpf_same.proofs.step.Step.is_value_beside.Goals as goal

pub returns : goal.returns
returns c = λ t.
    let s = c.args.self.now in
    value_beside s.insn s.stutters s.low (facts s.after.now) s.before.now c.args.address c.new_form-form.result c.args.register c.in-Value.m c.args.map (sym c.register.ensures.value ∙ c.in-Value.is) c.if-m-map.false c.requires (sym c.alters.ensures ∙ c.if-alters.false) c.new_form-form.ensures (c.is.ensures t)
