use Rattle.std.proofs.Common.{◌++◌, ◌∷◌, [], List, ℕ, ◌∙◌, ap}
use Rattle.bpf_lists.proofs.SortLemmas.{range_push}
use Rattle.bpf_lists.proofs.sorting.numbers_below.Goals as goal

pub loop-row-preserved : goal.loop-row-preserved
loop-row-preserved c = c.in_ok-push.ensures.items ∙ ap (λ (xs : List ℕ). xs ++ c.loop-row.row ∷ []) c.loop-row.invariant ∙ range_push c.loop-row.row
