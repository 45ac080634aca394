use Rattle.std.proofs.Common.{◌≡◌, sym, ap, ◌∙◌, subst, arith, ℕ, ℤ, w16}
use Rattle.std.proofs.lemmas.Int.{to_z-of_z}
use Rattle.bpf_same.specs.Stepped.{IsWordAt}
use Rattle.bpf_same.proofs.step.Step.stored.Goals as goal

pub returns-then-there-word : goal.returns-then-there-word
returns-then-there-word c = λ f g f' g' t h.
    let same : c.in-Some.there ≡ c.args.word = omega (arith, c.if-there-word.true) in
    let there : IsWordAt c.args.dst c.args.off c.args.self.now.low c.in-Some.there = subst (λ (o : ℤ). IsWordAt c.args.dst o c.args.self.now.low c.in-Some.there) (to_z-of_z w16 c.args.off c.ranges.off) c.in-Some.ensures in
    t.stored c.args.dst c.args.src c.args.off c.args.word c.requires.stutters c.requires.insn (subst (λ (w : ℕ). IsWordAt c.args.dst c.args.off c.args.self.now.low w) same there)
    ∙ (ap f (sym c.number.ensures.number) ∙ c.new_form.ensures f g h)

pub returns-else-there-word : goal.returns-else-there-word
returns-else-there-word c = λ f g f' g' t h.
    let there : IsWordAt c.args.dst c.args.off c.args.self.now.low c.in-Some.there = subst (λ (o : ℤ). IsWordAt c.args.dst o c.args.self.now.low c.in-Some.there) (to_z-of_z w16 c.args.off c.ranges.off) c.in-Some.ensures in
    t.beside c.args.dst c.args.src c.args.off c.in-Some.there c.args.word c.requires.stutters c.requires.insn there c.requires.lies (λ e. absurd (omega (arith, e, c.if-there-word.false))) ∙ c.new_form-else-there-word.ensures f g h
