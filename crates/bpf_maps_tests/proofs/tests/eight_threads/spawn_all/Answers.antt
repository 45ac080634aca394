use Rattle.std.proofs.Common.{ℕ, arith, ◌≡◌, [], All, sym, ap, ◌∙◌, subst, true≢false}
use Rattle.std.specs.declared.thread.PromisedHandle.{PromisedHandle}
use Rattle.bpf_maps_tests.specs.declared.tests.eight_threads.SeatBack.{SeatBack}
use Rattle.std.proofs.lemmas.List.Elements.{All-push}
use Rattle.bpf_maps.specs.Seats.{SeatView, CountersView, IsSeatOf}
use Rattle.bpf_maps.proofs.ReturnLemmas.{moved, none_left, last_of, empty_list}
use Rattle.bpf_maps_tests.proofs.tests.eight_threads.spawn_all.Goals as goal

abbrev Child : Type 0
Child = PromisedHandle SeatView SeatBack

-- the seat that the thread was lent
abbrev promised : Child → SeatView
promised h = h.promise.0.value

abbrev promised_number : Child → ℕ
promised_number h = h.promise.0.value.number

abbrev PromisesSeatOf : CountersView → Child → Type 0
PromisesSeatOf c h = IsSeatOf c h.promise.0.value

pub loop-seat-preserved : goal.loop-seat-preserved
loop-seat-preserved g c =
    let before = c.loop-seat.invariant in
    let counters = c.args.counters.now in
    let known = last_of (IsSeatOf counters) _ _ _ c.in-Some.ensures.items before.0 in
    let is : promised c.in_ok-child.child ≡ c.in-Some.seat = ap (λ p. p.0.value) c.in_ok-child.ensures.ok ∙ c.of.ensures in (
      known.0,
      subst (All (PromisesSeatOf counters)) (sym c.in_ok-push.ensures.items)
          (All-push (PromisesSeatOf counters) c.loop-seat.children.items c.in_ok-child.child before.1 (ap (λ s. s.table) is ∙ known.1.0, ap (λ s. s.shapes) is ∙ known.1.1, ap (λ s. s.begin) is ∙ known.1.2)),
      λ q h. moved (λ (s : SeatView). s.number) promised_number _ _ _ _ _ _ c.in-Some.ensures.items c.in_ok-push.ensures.items (ap (λ (s : SeatView). s.number) is) q (before.2 q h),
    )

pub returns : goal.returns
returns g c =
    let before = c.loop-seat.invariant in
    let none : c.loop-seat.seats.items ≡ [] = empty_list c.loop-seat.seats.items (λ h. true≢false (sym (c.in_default.ensures.variant.1 (let ok = c.loop-seat.seats.ok in omega arith)))) in
    (before.1, λ q h. none_left (λ (s : SeatView). s.number) promised_number _ _ none q (before.2 q h))
