use Rattle.std.proofs.Common.{w16, ℕ, ℤ, arith, sym, ap, ◌∙◌}
use Rattle.std.proofs.lemmas.Int.{ints, to_z-of_z}
use Rattle.bpf_note.specs.Parts.{facts}
use Rattle.bpf_same.specs.Moved.{address_in}
use Rattle.bpf_same.specs.Stepped.{alters}
use Rattle.bpf_same.proofs.ContentLemmas.{found_form}
use Rattle.bpf_same.proofs.step.Step.is_standing.Goals as goal

pub returns : goal.returns
returns c = λ t.
    let s = c.args.self.now in
    let m = facts s.after.now in
    found_form s.alone s.insn s.stutters s.low m s.before.now c.args.dst c.args.src c.args.off c.in-Value.m c.address.result c.in-Some.there c.args.form c.in-Some-pulled_back.here c.if-not-self.false c.requires
    (omega (arith, ints, c.if-off-lt0.false, c.ranges.off.sfits)) (omega (arith, ints, c.ranges.off.sfits)) (ap (λ (k : ℕ). alters s.insn k) (sym c.number.ensures.number) ∙ (sym c.alters.ensures ∙ c.if-alters.false))
    (ap m.reg (sym c.number-2.ensures.number) ∙ (sym c.register.ensures.value ∙ c.in-Value.is))
    (λ f g h. sym (ap (λ (off : ℤ). address_in f c.args.src off) (to_z-of_z w16 c.args.off c.ranges.off)) ∙ c.address.ensures f g h) c.in-Some.ensures c.in-Some-pulled_back.ensures (c.is.ensures t)
