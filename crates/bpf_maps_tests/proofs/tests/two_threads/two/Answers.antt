use Rattle.bpf_note.specs.Shape.{Shape, IsCounter}
use Rattle.std.proofs.Common.{arith, ◌≡◌, ℕ, ◌+◌, ◌*◌, ◌%◌, List, [], ◌∷◌, ◌++◌, sum_by, sym, ap, ◌∙◌, subst}
use Rattle.bpf_note.specs.History.{added}
use Rattle.bpf_maps.specs.Seats.{SeatView, new_seat}
use Rattle.bpf_maps.proofs.EverySeatLemmas.{every_in_order}
use Rattle.bpf_maps.proofs.PairLemmas.{two_last, two_numbers, two_sums}
use Rattle.bpf_maps_tests.proofs.tests.two_threads.two.Goals as goal

dealt : (g : _) (c : goal.In_ok-push-2 g) → (c.pop-2.new.self.items ≡ []) × (c.in-Some-pop.first ≡ new_seat c.in_ok-counters.counters 0) × (c.in-Some.second ≡ new_seat c.in_ok-counters.counters 1)
dealt g c = two_last _ _ _ _ _ (ap (λ (l : List SeatView). l ++ c.in-Some.second ∷ []) (sym c.in-Some-pop.ensures.items) ∙ (sym c.in-Some.ensures.items ∙ c.in_ok-counters.ensures.seats))

back : (g : _) (c : goal.In_ok-push-2 g) → c.push-2.new.self.items ≡ (c.pop-2.new.self.items ++ c.join-first.result.0 ∷ []) ++ c.join-first.result.1 ∷ []
back g c = c.in_ok-push-2.ensures.items ∙ ap (λ (l : List SeatView). l ++ c.join-first.result.1 ∷ []) c.in_ok-push.ensures.items

pub close-requires-clause-every : goal.close-requires-clause-every
close-requires-clause-every g c =
    let d = dealt g c in let h = c.join-first.ensures in
    let numbers = two_numbers _ _ _ _ (back g c) d.0 (h.first.1 ∙ ap (λ (s : SeatView). s.number) d.1) (h.second.1 ∙ ap (λ (s : SeatView). s.number) d.2) in
    let many : c.in_ok-counters.counters.seats ≡ 2 = c.in_ok-counters.ensures.counters.1 in
    λ q below. every_in_order _ 2 numbers q (omega arith)

pub returns : goal.returns
returns g c =
    let d = two_last _ _ _ _ _ (ap (λ (l : List SeatView). l ++ c.in-Some.second ∷ []) (sym c.in-Some-pop.ensures.items) ∙ (sym c.in-Some.ensures.items ∙ c.in_ok-counters.ensures.seats)) in
    let h = c.join-first.ensures in
    let F : SeatView → ℕ = λ s. sum_by (added 0 0 0) s.ops in
    let sums = two_sums F _ _ _ _ (c.in_ok-push-2.ensures.items ∙ ap (λ (l : List SeatView). l ++ c.join-first.result.1 ∷ []) c.in_ok-push.ensures.items) d.0 in
    let a : F c.in-Some-pop.first ≡ 0 = ap F d.1 in
    let b : F c.in-Some.second ≡ 0 = ap F d.2 in
    let total : sum_by F c.push-2.new.self.items ≡ c.args.ones * 1 + c.args.twos * 2 = omega (arith, h.first.2, h.second.2) in
    c.at-2.ensures ∙ (c.close.ensures.sums 0 0 0 (subst (λ (l : List Shape). IsCounter l 0 0 0) (sym c.in_ok-counters.ensures.counters.0) c.requires.place) ∙ ap (λ (n : ℕ). n % 18446744073709551616) (let zero = c.in_ok-counters.ensures.zeros 0 0 0 in omega arith))
