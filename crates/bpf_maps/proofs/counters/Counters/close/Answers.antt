use Rattle.std.proofs.Common.{arith, ◌≡◌, ℕ, ◌<◌, ◌+◌, List, [], ◌∷◌, ◌++◌, ◌%◌, ◌^◌, map, sum_by, sym, ap, ◌∙◌, subst, true≢false}
use Rattle.bpf_maps.specs.declared.view.Part.{Part}
use Rattle.bpf_note.specs.Shape.{Shape, IsCounter}
use Rattle.bpf_maps.specs.Layout.{total}
use Rattle.bpf_maps.specs.Rule.{Sat}
use Rattle.bpf_note.specs.History.{added}
use Rattle.bpf_maps.specs.Beginning.{began}
use Rattle.bpf_maps.specs.Seats.{SeatView, IsSeatOf, Account, begin_of, total_at}
use Rattle.bpf_maps.proofs.JoinLemmas.{joins}
use Rattle.bpf_maps.proofs.GrowthLemmas.{single}
use Rattle.bpf_maps.proofs.ClosingLemmas.{part_of, popped, all_popped, nonempty, append_nothing, empty, accounts}
use Rattle.bpf_maps.proofs.counters.Counters.close.Goals as goal

pub unreachable-requires : goal.unreachable-requires
unreachable-requires c =
    let some_seats : 0 < c.args.self.seats = subst (λ (n : ℕ). 0 < n) (ap (λ v. v.seats) c.self.view_is) c.self.invariant.5 in
    let long = nonempty c.args.seats.items c.args.self.seats some_seats c.requires.every in
    true≢false (sym (c.in_default.ensures.variant.1 (let ok = c.args.seats.ok in omega arith)))

pub loop-next-init : goal.loop-next-init
loop-next-init c =
    let known = all_popped (IsSeatOf c.args.self) _ _ _ c.in-Some.ensures.items c.requires.own in
    let s = c.last.view_is in
    let mine : c.last.inside.seat.me.0.parts ≡ part_of c.in-Some.last ∷ [] = single _ c.last.invariant.1 ∙ ap (λ (x : SeatView). part_of x ∷ []) s in (
      ap (λ x. x.table) s ∙ (known.1.0 ∙ sym (ap (λ v. v.table) c.self.view_is)),
      ap (λ x. x.shapes) s ∙ known.1.1,
      ap (λ x. x.begin) s ∙ known.1.2,
      ap (λ (l : List Part). map part_of c.pop.new.self.items ++ l) mine ∙ (popped _ _ c.in-Some.last [] c.in-Some.ensures.items ∙ append_nothing _),
      known.0,
    )

pub join_seat-requires : goal.join_seat-requires
join_seat-requires c =
    let before = c.loop-next.invariant in
    let known = all_popped (IsSeatOf c.args.self) _ _ _ c.in-Some-pop.ensures.items before.4 in
    let s = c.next.view_is in
    let words = c.self.invariant.2 in (
      before.0,
      ap (λ x. x.table) s ∙ (known.1.0 ∙ sym (ap (λ v. v.table) c.self.view_is)),
      c.next.invariant.0,
      omega arith,
      joins _ _ _ _ _ _ _ (ap (λ x. x.shapes) s ∙ (known.1.1 ∙ sym before.1)) (ap (λ x. x.begin) s ∙ (known.1.2 ∙ sym before.2)),
    )

pub loop-next-preserved : goal.loop-next-preserved
loop-next-preserved c =
    let before = c.loop-next.invariant in
    let known = all_popped (IsSeatOf c.args.self) _ _ _ c.in-Some-pop.ensures.items before.4 in
    let s = c.next.view_is in
    let now = c.join_seat.ensures.2 in
    let mine : c.next.inside.seat.me.0.parts ≡ part_of c.in-Some-pop.next ∷ [] = single _ c.next.invariant.1 ∙ ap (λ (x : SeatView). part_of x ∷ []) s in
    let parts : c.join_seat.new.seat.me.0.parts ≡ part_of c.in-Some-pop.next ∷ c.loop-next.all.me.0.parts = ap (λ (m : Sat). m.0.parts) now ∙ ap (λ (l : List Part). l ++ c.loop-next.all.me.0.parts) mine in (
      c.join_seat.ensures.0 ∙ before.0,
      ap (λ (m : Sat). m.0.shapes) now ∙ before.1,
      ap (λ (m : Sat). m.0.begin) now ∙ before.2,
      ap (λ (l : List Part). map part_of c.pop-in-loop-next.new.self.items ++ l) parts ∙ (popped _ _ c.in-Some-pop.next c.loop-next.all.me.0.parts c.in-Some-pop.ensures.items ∙ before.3),
      known.0,
    )

both : (c : goal.After-drop-seats) → Account (begin_of c.args.self) c.args.seats.items c.take_words.new.self
    × ((m k j : ℕ) → IsCounter c.args.self.shapes m k j → total_at c.take_words.new.self m k j ≡ (begin_of c.args.self m k j + sum_by (λ (x : SeatView). sum_by (added m k j) x.ops) c.args.seats.items) % 2 ^ 64)
both c =
    let before = c.loop-next.invariant in
    let final = c.close_with-closed.ensures.values.2 in
    let key = c.self.invariant.0 in
    let shapes = c.self.inside.table.shared.key.shapes.items in
    let begin = c.self.inside.table.shared.key.begin.items in
    let seats = c.self.inside.table.shared.key.seats in
    let same : shapes ≡ c.of-totals.result.shapes = ap (λ p. p.shapes.items) key ∙ sym (ap (λ t. t.shapes) c.of-totals.ensures) in
    let many : seats ≡ c.args.self.seats = ap (λ p. p.seats) key ∙ ap (λ v. v.seats) c.self.view_is in
    let all : total shapes ≡ total c.of-totals.result.shapes = ap total same in
    let none_left : c.loop-next.seats.items ≡ [] = empty c.loop-next.seats.items (λ h. true≢false (sym (c.in_default-pop.ensures.variant.1 (let ok = c.loop-next.seats.ok in omega arith)))) in
    let parts : c.loop-next.all.me.0.parts ≡ map part_of c.args.seats.items = ap (λ (l : List SeatView). map part_of l ++ c.loop-next.all.me.0.parts) (sym none_left) ∙ before.3 in
    let known = accounts shapes begin seats _ c.loop-next.all.id c.loop-next.all.me.0 c.args.seats.items c.take_words.new.self parts
    (λ q h. c.requires.every q (omega arith)) (c.take_words.ensures.shapes ∙ sym same) (λ i h. c.take_words.ensures.values i (omega arith)) final.0 final.1 final.2 in
    let mine : shapes ≡ c.args.self.shapes = ap (λ p. p.shapes.items) key ∙ ap (λ v. v.shapes) c.self.view_is in
    let first : begin ≡ c.args.self.begin = ap (λ p. p.begin.items) key ∙ ap (λ v. v.begin) c.self.view_is in
    subst (λ (z : List Shape × List ℕ). Account (began z.0 z.1) c.args.seats.items c.take_words.new.self
    × ((m k j : ℕ) → IsCounter z.0 m k j → total_at c.take_words.new.self m k j ≡ (began z.0 z.1 m k j + sum_by (λ (x : SeatView). sum_by (added m k j) x.ops) c.args.seats.items) % 18446744073709551616))
    (λ i. (mine i, first i)) known

pub returns-clause-history : goal.returns-clause-history
returns-clause-history c = (both c).0

pub returns-clause-sums : goal.returns-clause-sums
returns-clause-sums c = (both c).1
