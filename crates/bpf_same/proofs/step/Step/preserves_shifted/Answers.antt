use Rattle.std.proofs.Common.{sym, ◌∙◌, subst}
use Rattle.bpf_note.specs.Parts.{facts}
use Rattle.bpf_same.specs.declared.linear_form.LinearForm.{LinearForm}
use Rattle.bpf_same.specs.Stepped.{PreservesShifted}
use Rattle.bpf_same.proofs.PreserveLemmas.{same_form}
use Rattle.bpf_same.proofs.step.Step.preserves_shifted.Goals as goal

pub returns-in-Some : goal.returns-in-Some
returns-in-Some c = λ t s e.
    let w = c.args.self.now in
    subst (λ (s : LinearForm). PreservesShifted w.insn w.stutters w.low (facts w.after.now) w.before.now c.args.register s) (same_form (sym c.in-Some.is ∙ (c.shifted_form.ensures ∙ e))) (c.is_shifted.ensures t)
