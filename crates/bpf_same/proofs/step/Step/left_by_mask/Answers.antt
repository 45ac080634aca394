use Rattle.std.proofs.Common.{rules, arith, FitsSigned, w32, ℕ, ◌≡◌, sym, ◌∙◌, subst, Option}
use Rattle.std.proofs.lemmas.Bool.Decides.{nat_tests}
use Rattle.std.proofs.lemmas.Int.{to_z-of_z}
use Rattle.bpf_insn.specs.Signed.{sign_extended}
use Rattle.bpf_note.specs.declared.val.Val.{Val}
use Rattle.bpf_note.specs.Parts.{facts}
use Rattle.bpf_same.specs.LinearForms.{Hold, total}
use Rattle.bpf_same.specs.Ranges.{IsRead}
use Rattle.bpf_same.proofs.MaskLemmas.{lies_by, mask_leaves}
use Rattle.bpf_same.proofs.step.Step.left_by_mask.Goals as goal

pub returns-then-wide : goal.returns-then-wide
returns-then-wide c =
    let s = c.args.self.now in
    let m = facts s.after.now in
    let there = c.in-Some.there in
    let range = c.in-Some-range_by.range in
    let bits = c.in-Some-bits_of.bits in
    let form = c.new_form-form.result in
    let fits : FitsSigned w32 c.in-Immediate.value = search rules in
    let mask : c.extended.result ≡ sign_extended c.in-Immediate.value = simp to_z-of_z at c.extended.ensures in
    let again : c.extended-else-bits-ne0.result ≡ sign_extended c.in-Immediate.value = simp to_z-of_z at c.extended-else-bits-ne0.ensures in
    mask_leaves s.insn s.stutters s.low m s.before.now c.args.op c.args.wide c.args.dst c.args.src c.in-Immediate.value form range.low range.high bits.from bits.to c.requires c.in-And.is c.if-wide.true c.in-Immediate.is
    (subst (λ (k : ℕ). (f g : ℕ → Option ℕ) → Hold s.before.now f g → f k ≡ total f form) c.number.ensures.number c.new_form-form.ensures)
    (lies_by s.insn s.stutters s.low m s.before.now _ there.low there.high range.low range.high c.new_form.result form (grind (arith, nat_tests, c.if-register-from.false, c.from.ensures)) (sym c.alters.ensures ∙ c.if-alters.false)
    (subst (λ (v : Val). IsRead m v there.low there.high) c.register.ensures.value c.in-Some.ensures) c.new_form.ensures c.in-Some-range_by.ensures)
    c.if-bits-ne0.false (sym mask ∙ c.in-Some-bits_of.ensures.2) (grind (arith, nat_tests, c.if-range-extended.false, again))
