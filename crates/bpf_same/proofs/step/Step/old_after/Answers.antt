use Rattle.std.proofs.Common.{sym, ◌∙◌}
use Rattle.bpf_note.specs.Parts.{facts}
use Rattle.bpf_same.proofs.PreserveLemmas.{old_kept_if}
use Rattle.bpf_same.proofs.step.Step.old_after.Goals as goal

pub returns-then-self : goal.returns-then-self
returns-then-self c =
    let s = c.args.self.now in
    old_kept_if s.insn s.stutters s.low (facts s.after.now) s.before.now c.args.register c.old_form.result c.requires c.old_form.ensures (λ f g f' g' t. t.stays c.args.register c.if-self.true)

pub returns-else-alters : goal.returns-else-alters
returns-else-alters c =
    let s = c.args.self.now in
    old_kept_if s.insn s.stutters s.low (facts s.after.now) s.before.now c.args.register c.old_form-else-alters.result c.requires c.old_form-else-alters.ensures (λ f g f' g' t. t.old_kept c.args.register (sym c.alters.ensures ∙ c.if-alters.false))
