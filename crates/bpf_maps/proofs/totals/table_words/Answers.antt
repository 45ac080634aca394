use Rattle.std.proofs.Common.{◌∙◌, ◌∷◌, ◌++◌, [], ℕ, ◌<◌, List, All, length, ap, subst}
use Rattle.bpf_maps.specs.Numbers.{filled}
use Rattle.bpf_maps.proofs.NumberLemmas.{filled_all}
use Rattle.bpf_maps.proofs.totals.table_words.Goals as goal

pub returns-clause-words : goal.returns-clause-words
returns-clause-words c =
    let numbers = c.args.numbers.now in
    c.in_ok-push_numbers.ensures.pushed
    ∙ ap (λ (l : List ℕ). l ++ filled (length numbers) numbers) (c.in_ok-push.ensures.items ∙ ap (λ (l : List ℕ). l ++ 0 ∷ []) c.new-words.ensures.items)
    ∙ ap (λ (l : List ℕ). 0 ∷ l) (filled_all numbers)

pub returns-clause-small : goal.returns-clause-small
returns-clause-small c =
    let numbers = c.args.numbers.now in
    subst (All (λ (n : ℕ). n < 18446744073709551616)) (filled_all numbers) c.in_ok-push_numbers.ensures.small
