use Rattle.std.proofs.Common.{sym, ◌∙◌}
use Rattle.bpf_note.specs.Parts.{facts}
use Rattle.bpf_same.proofs.ContentLemmas.{old_found}
use Rattle.bpf_same.proofs.step.Step.is_old_found.Goals as goal

pub returns : goal.returns
returns c = λ t.
    let s = c.args.self.now in
    old_found s.alone s.insn s.stutters s.low (facts s.after.now) s.before.now c.args.register c.args.form c.if-self.false (sym c.alters.ensures ∙ c.if-not-alters.false) c.requires (c.is_found.ensures t)
