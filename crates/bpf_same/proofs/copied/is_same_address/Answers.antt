use Rattle.std.proofs.Common.{◌≡◌, sym, ap, ◌∙◌, arith, w16, ℤ, Option, ℕ, Some}
use Rattle.std.proofs.lemmas.Int.{to_z-of_z}
use Rattle.bpf_insn.specs.Register.{number}
use Rattle.bpf_insn.specs.Signed.{sign_extended}
use Rattle.bpf_same.specs.LinearForms.{plus, total}
use Rattle.bpf_same.proofs.copied.is_same_address.Goals as goal

pub returns : goal.returns
returns c = λ t f g h.
    let a = c.args in
    let form = c.in-Some.form in
    let held = c.new_form-held.result in
    let one : g (number a.there) ≡ total f form = ap g (sym c.number-place.ensures.number) ∙ h.olds c.number-place.result form (omega (arith, c.number-place.ensures.high)) (sym c.old_form.ensures ∙ c.in-Some.is) in
    let other : f (number a.base) ≡ total f held = ap f (sym c.number-register.ensures.number) ∙ c.new_form-held.ensures f g h in
    let old : total f c.at_offset-old.result ≡ plus (total f form) (Some (sign_extended a.from)) = c.at_offset-old.ensures f ∙ ap (λ (z : ℤ). plus (total f form) (Some (sign_extended z))) (to_z-of_z w16 a.from c.ranges.from) in
    let new : total f c.at_offset-new.result ≡ plus (total f held) (Some (sign_extended a.off)) = c.at_offset-new.ensures f ∙ ap (λ (z : ℤ). plus (total f held) (Some (sign_extended z))) (to_z-of_z w16 a.off c.ranges.off) in
    ap (λ (o : Option ℕ). plus o (Some (sign_extended a.from))) one ∙ (sym old ∙ (ap (total f) (c.is.ensures t) ∙ (new ∙ sym (ap (λ (o : Option ℕ). plus o (Some (sign_extended a.off))) other))))
