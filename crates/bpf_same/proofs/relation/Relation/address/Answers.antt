use Rattle.std.proofs.Common.{◌≡◌, sym, ap, ◌∙◌, w16, ℤ, Option, ℕ, Some}
use Rattle.std.proofs.lemmas.Int.{to_z-of_z}
use Rattle.bpf_insn.specs.Register.{number}
use Rattle.bpf_insn.specs.Signed.{sign_extended}
use Rattle.bpf_same.specs.LinearForms.{plus, total}
use Rattle.bpf_same.proofs.relation.Relation.address.Goals as goal

pub returns : goal.returns
returns c = λ f g h.
    let a = c.args in
    let held = c.new_form.result in
    let base : f (number a.base) ≡ total f held = ap f (sym c.number.ensures.number) ∙ c.new_form.ensures f g h in
    let moved : total f c.at_offset.result ≡ plus (total f held) (Some (sign_extended a.off)) = c.at_offset.ensures f ∙ ap (λ (z : ℤ). plus (total f held) (Some (sign_extended z))) (to_z-of_z w16 a.off c.ranges.off) in
    ap (λ (o : Option ℕ). plus o (Some (sign_extended a.off))) base ∙ sym moved
