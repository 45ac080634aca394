use Rattle.std.proofs.Common.{◌≡◌, sym, ◌∙◌, false, true}
use Rattle.bpf_same.proofs.step.Step.word_left.Goals as goal

pub returns-else-is_register_store : goal.returns-else-is_register_store
returns-else-is_register_store c = λ f g f' g' t h.
    t.words c.args.word c.requires.lies (λ o r. absurd (let both : false ≡ true = sym c.if-is_register_store.false ∙ (c.is_register_store.ensures ∙ r) in cc)) ∙ c.new_form.ensures f g h
