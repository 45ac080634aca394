use Rattle.std.proofs.Common.{arith, ◌≡◌, ◌+◌, ◌<◌, ◌∷◌, [], List, ℕ, length, sym, ◌∙◌, ap, subst}
use Rattle.std.proofs.lemmas.List.{length-append}
use Rattle.bpf_lists.specs.Order.{AreParents, Reaches}
use Rattle.bpf_lists.proofs.OrderLemmas.{place_start}
use Rattle.bpf_lists.proofs.SortLemmas.{parents_none, parents_more}
use Rattle.bpf_lists.proofs.sorting.parents.Goals as goal

pub climb-parent-requires-clause-from : goal.climb-parent-requires-clause-from
climb-parent-requires-clause-from c =
    let e : length c.as_slice.result.now ≡ length c.loop-place.parents.items = ap (λ (xs : List ℕ). length xs) c.as_slice.ensures.value in
    omega arith

pub climb-parent-requires-clause-parents : goal.climb-parent-requires-clause-parents
climb-parent-requires-clause-parents c =
    let e : length c.as_slice.result.now ≡ length c.loop-place.parents.items = ap (λ (xs : List ℕ). length xs) c.as_slice.ensures.value in
    omega arith

pub climb-parent-requires-clause-nested : goal.climb-parent-requires-clause-nested
climb-parent-requires-clause-nested c =
    subst (λ xs. AreParents c.args.order.now xs) (sym c.as_slice.ensures.value) c.loop-place.invariant.nested

pub climb-parent-requires-clause-start : goal.climb-parent-requires-clause-start
climb-parent-requires-clause-start c =
    let place_in : c.loop-place.place < length c.args.order.now.rows = omega arith in
    subst (λ k. Reaches c.args.order.now c.loop-place.place k c.loop-place.place) (sym c.key.ensures.value)
    (place_start c.args.order.now c.len.ensures.ordered c.loop-place.place place_in)

pub loop-place-init : goal.loop-place-init
loop-place-init c =
    let empty = c.in_ok-parents.ensures.items in
    record {
      long = ap (λ (xs : List ℕ). length xs) empty;
      nested = subst (λ xs. AreParents c.args.order.now xs) (sym empty) (parents_none c.args.order.now);
    }

pub loop-place-preserved : goal.loop-place-preserved
loop-place-preserved c =
    let o = c.args.order.now in
    let place = c.loop-place.place in
    let q = c.climb-parent.result in
    let ps : List ℕ = c.loop-place.parents.items in
    let more = c.in_ok-push.ensures.items in
    let inv = c.loop-place.invariant in
    let reaches = c.climb-parent.ensures.reaches in
    record {
      long = ap (λ (xs : List ℕ). length xs) more ∙ length-append ps (q ∷ []) ∙ ap (λ (n : ℕ). n + 1) inv.long;
      nested = subst (λ xs. AreParents o xs) (sym more)
          (parents_more o ps place q inv.nested inv.long c.climb-parent.ensures.most (subst (λ k. Reaches o place k q) c.key.ensures.value reaches));
    }
