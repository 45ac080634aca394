use Rattle.std.proofs.Common.{◌∙◌, subst, ℤ, w16}
use Rattle.std.proofs.lemmas.Int.{to_z-of_z}
use Rattle.bpf_same.specs.Stepped.{IsWordAt}
use Rattle.bpf_same.proofs.step.Step.loaded.Goals as goal

pub returns-in-Some : goal.returns-in-Some
returns-in-Some c = λ f g f' g' t h.
    t.loaded c.args.dst c.args.src c.args.off c.in-Some.word c.requires.stutters c.requires.insn (subst (λ (o : ℤ). IsWordAt c.args.src o c.args.self.now.low c.in-Some.word) (to_z-of_z w16 c.args.off c.ranges.off) c.in-Some.ensures)
    ∙ c.new_form.ensures f g h
