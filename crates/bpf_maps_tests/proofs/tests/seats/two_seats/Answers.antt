use Rattle.std.proofs.Common.{arith, ◌≡◌, ℕ, List, [], ◌∷◌, ◌++◌, sym, ap, ◌∙◌}
use Rattle.bpf_maps.specs.Seats.{SeatView}
use Rattle.bpf_maps.proofs.EverySeatLemmas.{every_in_order}
use Rattle.bpf_maps.proofs.PairLemmas.{two_last, two_numbers}
use Rattle.bpf_maps_tests.proofs.tests.seats.two_seats.Goals as goal

pub close-totals-requires-clause-every : goal.close-totals-requires-clause-every
close-totals-requires-clause-every c =
    let d = two_last _ _ _ _ _ (ap (λ (l : List SeatView). l ++ c.in-Some.second ∷ []) (sym c.in-Some-pop.ensures.items) ∙ (sym c.in-Some.ensures.items ∙ c.in_ok-counters.ensures.seats)) in
    let number : SeatView → ℕ = λ s. s.number in
    let a : c.meet-first.result.0.number ≡ 0 = ap number c.meet-first.ensures.same.0 ∙ (ap number c.load-2.ensures ∙ (ap number c.load.ensures ∙ (ap number c.add.ensures ∙ ap number d.1))) in
    let b : c.meet-first.result.1.number ≡ 1 = ap number c.meet-first.ensures.same.1 ∙ (ap number c.add-2.ensures ∙ ap number d.2) in
    let numbers = two_numbers _ _ _ _ (c.in_ok-push-2.ensures.items ∙ ap (λ (l : List SeatView). l ++ c.meet-first.result.1 ∷ []) c.in_ok-push.ensures.items) d.0 a b in
    let many : c.in_ok-counters.counters.seats ≡ 2 = c.in_ok-counters.ensures.counters.1 in
    λ q below. every_in_order _ 2 numbers q (omega arith)
