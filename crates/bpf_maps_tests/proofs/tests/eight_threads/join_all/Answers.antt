use Rattle.std.proofs.Common.{ℕ, arith, ◌≡◌, [], All, sym, ◌∙◌, subst, true≢false}
use Rattle.std.specs.declared.thread.PromisedHandle.{PromisedHandle}
use Rattle.bpf_maps_tests.specs.declared.tests.eight_threads.SeatBack.{SeatBack}
use Rattle.std.proofs.lemmas.List.Elements.{All-push}
use Rattle.bpf_maps.specs.Seats.{SeatView, CountersView, IsSeatOf}
use Rattle.bpf_maps.proofs.ReturnLemmas.{moved, none_left, last_of, empty_list}
use Rattle.bpf_maps_tests.proofs.tests.eight_threads.join_all.Goals as goal

abbrev Child : Type 0
Child = PromisedHandle SeatView SeatBack

-- the seat that the thread was lent
abbrev promised : Child → SeatView
promised h = h.promise.0.value

abbrev promised_number : Child → ℕ
promised_number h = h.promise.0.value.number

abbrev PromisesSeatOf : CountersView → Child → Type 0
PromisesSeatOf c h = IsSeatOf c h.promise.0.value

pub loop-child-preserved : goal.loop-child-preserved
loop-child-preserved g c =
    let before = c.loop-child.invariant in
    let kept = c.join.ensures in (
      λ d all.
          let both = before.0 d all in
          let known = last_of (PromisesSeatOf d) _ _ _ c.in-Some.ensures.items both.0 in (
            known.0,
            subst (All (IsSeatOf d)) (sym c.in_ok-push.ensures.items) (All-push (IsSeatOf d) c.loop-child.seats.items c.join.result both.1 (kept.0 ∙ known.1.0, kept.1 ∙ known.1.1, kept.2 ∙ known.1.2)),
          ),
      λ q h. moved promised_number (λ (s : SeatView). s.number) _ _ _ _ _ _ c.in-Some.ensures.items c.in_ok-push.ensures.items kept.3 q (before.1 q h),
    )

pub returns-clause-numbers : goal.returns-clause-numbers
returns-clause-numbers g c =
    let none : c.loop-child.children.items ≡ [] = empty_list c.loop-child.children.items (λ h. true≢false (sym (c.in_default.ensures.variant.1 (let ok = c.loop-child.children.ok in omega arith)))) in
    λ q h. none_left promised_number (λ (s : SeatView). s.number) _ _ none q (c.loop-child.invariant.1 q h)
