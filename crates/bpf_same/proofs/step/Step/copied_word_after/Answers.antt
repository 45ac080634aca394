use Rattle.std.proofs.Common.{◌≡◌, sym, ◌∙◌, false, true}
use Rattle.bpf_same.proofs.step.Step.copied_word_after.Goals as goal

pub returns : goal.returns
returns c = λ f g f' g' t h. t.words c.args.word c.requires.lies (λ o r. absurd (let both : false ≡ true = sym c.requires.copied ∙ o in cc)) ∙ c.new_form.ensures f g h
