use Rattle.std.proofs.Common.{sym, ◌∙◌, subst}
use Rattle.bpf_note.specs.Parts.{facts}
use Rattle.bpf_same.specs.declared.linear_form.LinearForm.{LinearForm}
use Rattle.bpf_same.specs.Contents.{IsOldFound}
use Rattle.bpf_same.proofs.PreserveLemmas.{same_form}
use Rattle.bpf_same.proofs.step.Step.preserves_register.Goals as goal

pub returns-in-Some : goal.returns-in-Some
returns-in-Some c = λ t s e.
    let w = c.args.self.now in
    subst (λ (s : LinearForm). IsOldFound w.alone w.insn w.stutters w.low (facts w.after.now) w.before.now c.args.register s) (same_form (sym c.in-Some.is ∙ (c.old_form.ensures ∙ e))) (c.holds_old.ensures t)
