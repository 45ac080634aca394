use Rattle.std.proofs.Common.{sym, ◌∙◌}
use Rattle.bpf_note.specs.Parts.{facts}
use Rattle.bpf_same.proofs.PreserveLemmas.{alike_by}
use Rattle.bpf_same.proofs.step.Step.is_alike.Goals as goal

pub returns-then-alters : goal.returns-then-alters
returns-then-alters c = λ t.
    let s = c.args.self.now in
    alike_by s.insn s.stutters s.low (facts s.after.now) c.args.register c.args.form c.held.result c.if-self.false (sym c.alters.ensures ∙ c.if-alters.true) c.requires (λ f. c.held.ensures f) (c.is.ensures t)
