use Rattle.std.proofs.Common.{sym, ◌∙◌, subst}
use Rattle.bpf_note.specs.Parts.{facts}
use Rattle.bpf_same.specs.declared.linear_form.LinearForm.{LinearForm}
use Rattle.bpf_same.specs.Contents.{IsNewFound}
use Rattle.bpf_same.proofs.PreserveLemmas.{same_form}
use Rattle.bpf_same.proofs.step.Step.preserves_term.Goals as goal

pub returns-in-Some : goal.returns-in-Some
returns-in-Some c = λ t s e.
    let w = c.args.self.now in
    subst (λ (s : LinearForm). IsNewFound w.alone w.insn w.stutters w.low (facts w.after.now) w.before.now c.args.term s) (same_form (sym c.in-Some.is ∙ (c.claimed.ensures ∙ e))) (c.holds_new.ensures t)
