use Rattle.std.proofs.Common.{arith, rules, ◌≡◌, List, ℕ, sym, subst}
use Rattle.bpf_lists.specs.Order.{Ordered, IsOrdered, Differ}
use Rattle.bpf_lists.proofs.SortLemmas.{ordered_from, listed_from}
use Rattle.bpf_lists.proofs.sorting.order.Goals as goal

pub overflow_cast-count : goal.overflow_cast-count
overflow_cast-count c = let few = c.requires.rows.few.few in omega arith

pub invariant_of-result : goal.invariant_of-result
invariant_of-result c =
    let kind = c.args.kind in
    let rows : List ℕ = c.in_ok-rows.rows.items in
    let same : c.in_ok-keys.keys.items ≡ c.args.keys.now = c.in_ok-keys.ensures.items_if_clones_equal (search rules) in
    let differ = subst (λ rs. Differ kind c.args.keys.now rs) c.as_slice.ensures.value c.in_ok-check_distinct.ensures.distinct in
    let base = ordered_from kind c.args.keys.now rows (λ k. (c.type_inv.keys k).fits) c.requires.rows c.in_ok-rows.ensures differ in
    subst (λ (ks : List ℕ). IsOrdered record { kind = kind; keys = ks; rows = rows }) (sym same) base

pub returns-clause-listed : goal.returns-clause-listed
returns-clause-listed c =
    let kind = c.args.kind in
    let rows : List ℕ = c.in_ok-rows.rows.items in
    let differ = subst (λ rs. Differ kind c.args.keys.now rs) c.as_slice.ensures.value c.in_ok-check_distinct.ensures.distinct in
    let o : Ordered = record { kind = kind; keys = c.args.keys.now; rows = rows } in
    listed_from o (ordered_from kind c.args.keys.now rows (λ k. (c.type_inv.keys k).fits) c.requires.rows c.in_ok-rows.ensures differ)
