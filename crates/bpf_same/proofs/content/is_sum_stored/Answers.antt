use Rattle.std.proofs.Common.{w16, ℤ, sym, ap, ◌∙◌, arith}
use Rattle.std.proofs.lemmas.Int.{to_z-of_z}
use Rattle.bpf_same.specs.Moved.{address_in}
use Rattle.bpf_same.proofs.ContentLemmas.{sum_stored}
use Rattle.bpf_same.proofs.content.is_sum_stored.Goals as goal

pub returns-then-is_same_address : goal.returns-then-is_same_address
returns-then-is_same_address c = λ t.
    let a = c.args in
    sum_stored a.relation.now a.base a.value a.dst a.src a.from a.off c.address-address.result c.in-Some.number c.new_form.result c.in-Some-plus.sum c.in-Some-old_form.stored
    (λ f g h. sym (ap (λ (off : ℤ). address_in f a.dst off) (to_z-of_z w16 a.off c.ranges.off)) ∙ c.address-address.ensures f g h) c.in-Some.ensures
    (λ f g h. ap f (sym c.number.ensures.number) ∙ c.new_form.ensures f g h) c.in-Some-plus.ensures
    (λ f g h. ap g (sym c.number-2.ensures.number) ∙ h.olds c.number-2.result c.in-Some-old_form.stored (omega (arith, c.number-2.ensures.high)) (sym c.old_form.ensures ∙ c.in-Some-old_form.is))
    (λ f g h. sym (ap (λ (off : ℤ). address_in g a.base off) (to_z-of_z w16 a.from c.ranges.from)) ∙ (c.is_same_address.ensures c.if-is_same_address.true f g h ∙ ap (λ (off : ℤ). address_in f a.dst off) (to_z-of_z w16 a.off c.ranges.off)))
    (c.is.ensures t)
