use Rattle.std.proofs.Common.{arith, ◌≡◌, ℕ, ◌<◌, [], ◌∷◌, ◌++◌, All, List, length, subst, sym, ap, ◌∙◌}
use Rattle.bpf_maps.specs.declared.view.View.{View}
use Rattle.bpf_maps.specs.Rule.{Sat, view, part}
use Rattle.bpf_maps.specs.Seats.{CountersView, seat_view, new_seat}
use Rattle.std.proofs.lemmas.List.FromFn.{map-range_with_len_more}
use Rattle.bpf_maps.proofs.OpeningLemmas.{opens, deal_step}
use Rattle.bpf_maps.proofs.JoinLemmas.{splits}
use Rattle.bpf_maps.proofs.counters.Counters.begin.Goals as goal

pub of_words-requires : goal.of_words-requires
of_words-requires c =
    opens c.into_parts-shapes.result.0.items c.into_parts-shapes.result.1.items _ _ c.into_parts-shapes.ensures.values
    (subst (All (λ (n : ℕ). n < 18446744073709551616)) c.as_slice.ensures.value c.in_ok-words.ensures.small)
    (c.as_slice-2.ensures.value ∙ c.in_ok-words.ensures.words ∙ ap (λ (l : List ℕ). 0 ∷ l) c.as_slice.ensures.value)

pub split_seat-seat-requires : goal.split_seat-seat-requires
split_seat-seat-requires c =
    let words = c.in_ok-table.ensures.0 in
    let long = ap length (c.as_slice-2.ensures.value ∙ c.in_ok-words.ensures.words) in
    (c.loop-number.invariant.0, omega arith, splits _ _ _ _ _)

pub invariant_of-push : goal.invariant_of-push
invariant_of-push c =
    let t = deal_step _ _ _ _ c.loop-number.rest.me c.loop-number-test.true c.loop-number.invariant.1 in
    let given = c.split_seat-seat.ensures.4 in
    (ap (λ (m : Sat). m.1) given, ap (λ (m : Sat). length m.0.parts) given ∙ ap (λ (v : View). length v.parts) t.1)

pub loop-number-preserved : goal.loop-number-preserved
loop-number-preserved c =
    let before = c.loop-number.invariant in
    let ends = c.split_seat-seat.ensures in
    let i = c.loop-number._number in
    let C : CountersView = record { table = c.in_ok-table.table.shared.table_id; shapes = c.into_parts-shapes.result.0.items; begin = c.into_parts-shapes.result.1.items; seats = c.args.seats } in
    let t = deal_step _ _ i _ c.loop-number.rest.me c.loop-number-test.true before.1 in
    let kept : c.loop-number.rest.me.1 ≡ [] = ap (λ (m : Sat). m.1) before.1 in
    let same : c.split_seat-seat.result.table_id ≡ C.table = ends.3 ∙ before.0 in
    let mine : c.split_seat-seat.result.me.0 ≡ view C.shapes C.begin (part i [] ∷ []) = ap (λ (m : Sat). m.0) ends.4 ∙ t.1 in
    let x_is : seat_view c.split_seat-seat.result.table_id c.split_seat-seat.result.me.0 ≡ new_seat C i = (λ k. seat_view (same k) (mine k)) in (
      ends.0 ∙ before.0,
      ends.2 ∙ (λ k. (t.0 k, kept k)),
      c.in_ok-push.ensures.items ∙ ((λ k. before.2 k ++ x_is k ∷ []) ∙ sym (map-range_with_len_more (new_seat C) 0 i i (omega arith))),
    )
