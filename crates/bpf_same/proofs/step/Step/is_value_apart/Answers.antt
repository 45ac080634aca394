use Rattle.bpf_note.specs.Parts.{facts}
use Rattle.std.proofs.Common.{sym, ◌∙◌}
use Rattle.bpf_same.proofs.ContentLemmas.{apart_if}
use Rattle.bpf_same.proofs.step.Step.is_value_apart.Goals as goal

pub returns : goal.returns
returns c = λ t.
    let s = c.args.self.now in
    apart_if s.insn s.stutters s.low (facts s.after.now) s.before.now c.args.address c.args.register c.in-Value.m (sym c.register.ensures.value ∙ c.in-Value.is) c.requires (sym c.alters.ensures ∙ c.if-alters.false) (c.is_no_value.ensures t)
