use Rattle.std.proofs.Common.{rules, arith, ◌≡◌, ◌-◌, suc, ◌∙◌, sym, ap, subst}
use Rattle.std.specs.List.{range_with_len}
use Rattle.std.specs.List.Sorted.{IsPermutation}
use Rattle.std.proofs.lemmas.List.Sorted.{IsNonDecreasingBy-from_sort_by}
use Rattle.bpf_lists.specs.Order.{spot, AreSorted}
use Rattle.bpf_lists.proofs.SortLemmas.{rows_sorted, none_sorted}
use Rattle.bpf_lists.proofs.sorting.sorted.Goals as goal

pub returns-then-count-eq0 : goal.returns-then-count-eq0
returns-then-count-eq0 c =
    let none : c.args.count ≡ 0 = c.if-count-eq0.true in
    let empty = c.in_ok-rows.ensures ∙ ap (range_with_len 0) none in
    subst (λ rows. AreSorted c.args.kind c.args.keys.now rows) (sym empty) (none_sorted c.args.kind c.args.keys.now (sym c.requires.count ∙ none))

pub returns : goal.returns
returns c =
    let kind = c.args.kind in
    let keys = c.args.keys.now in
    let last = c.args.count - 1 in
    let some = c.if-count-eq0.false in
    let more : c.args.count ≡ suc last = omega arith in
    let all = c.in_ok-rows.ensures ∙ ap (range_with_len 0) more in
    let moved = subst (λ rows. IsPermutation rows c.sort_unstable_by.new.self.items) all c.sort_unstable_by.ensures.permutation in
    rows_sorted kind keys last c.sort_unstable_by.new.self.items c.requires.rows.few (sym c.requires.count ∙ more) moved
    (IsNonDecreasingBy-from_sort_by (spot kind keys last) _ c.sort_unstable_by.ensures.sorted (λ a r q k. search rules))
