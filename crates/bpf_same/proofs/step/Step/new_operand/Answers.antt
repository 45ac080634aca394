use Rattle.std.proofs.Common.{rules, FitsSigned, w32, ◌≡◌, sym, ap, ◌∙◌, Some}
use Rattle.std.proofs.lemmas.Int.{to_z-of_z}
use Rattle.bpf_insn.specs.Signed.{sign_extended}
use Rattle.bpf_same.specs.LinearForms.{total}
use Rattle.bpf_same.specs.Stepped.{operand_in}
use Rattle.bpf_same.proofs.step.Step.new_operand.Goals as goal

pub returns-in-Register : goal.returns-in-Register
returns-in-Register c = λ f g h. ap (operand_in f) c.in-Register.is ∙ (ap f (sym c.number.ensures.number) ∙ c.new_form.ensures f g h)

pub returns-in-Immediate : goal.returns-in-Immediate
returns-in-Immediate c = λ f g h.
    let fits : FitsSigned w32 c.in-Immediate.value = search rules in
    let e : Some (sign_extended c.in-Immediate.value) ≡ total f c.constant.result = ap Some (sym (simp to_z-of_z at c.extended.ensures)) ∙ sym (c.constant.ensures f) in
    ap (operand_in f) c.in-Immediate.is ∙ e
