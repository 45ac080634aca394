use Rattle.std.proofs.Common.{arith, ℕ, List, sym, ap, ◌∙◌, subst}
use Rattle.bpf_note.specs.Shape.{Shape}
use Rattle.bpf_maps.specs.Rule.{AreShares}
use Rattle.bpf_maps.specs.Seats.{SeatView, StandTogether, begin_of}
use Rattle.bpf_maps.proofs.JoinLemmas.{splits, joins, looks}
use Rattle.bpf_maps.proofs.GrowthLemmas.{together}
use Rattle.bpf_maps.proofs.counters.Counters.meet.Goals as goal

pub join_seat-requires : goal.join_seat-requires
join_seat-requires c =
    let words = c.self.invariant.2 in
    let here = ap (λ v. v.table) c.self.view_is in
    let first = c.first.view_is in
    let second = c.second.view_is in (
      ap (λ s. s.table) first ∙ (c.requires.first.0 ∙ sym here),
      ap (λ s. s.table) second ∙ (c.requires.second.0 ∙ sym here),
      c.second.invariant.0,
      omega arith,
      joins _ _ _ _ _ _ _ (ap (λ s. s.shapes) second ∙ (c.requires.second.1 ∙ (sym c.requires.first.1 ∙ sym (ap (λ s. s.shapes) first))))
          (ap (λ s. s.begin) second ∙ (c.requires.second.2 ∙ (sym c.requires.first.2 ∙ sym (ap (λ s. s.begin) first)))),
    )

pub load-requires : goal.load-requires
load-requires c =
    let words = c.self.invariant.2 in
    (c.join_seat.ensures.0 ∙ (ap (λ s. s.table) c.first.view_is ∙ (c.requires.first.0 ∙ sym (ap (λ v. v.table) c.self.view_is))), omega arith, looks _ _ _ _ _ _ _)

pub split_seat-two-requires : goal.split_seat-two-requires
split_seat-two-requires c =
    let words = c.self.invariant.2 in (
      c.load.ensures.0 ∙ (c.join_seat.ensures.0 ∙ (ap (λ s. s.table) c.first.view_is ∙ (c.requires.first.0 ∙ sym (ap (λ v. v.table) c.self.view_is)))),
      omega arith,
      splits _ _ _ _ _,
    )

pub returns-clause-history : goal.returns-clause-history
returns-clause-history c =
    let own = c.join_seat.ensures.2 in
    let shapes = ap (λ m. m.0.shapes) own ∙ (ap (λ s. s.shapes) c.first.view_is ∙ c.requires.first.1) in
    let begin = ap (λ m. m.0.begin) own ∙ (ap (λ s. s.begin) c.first.view_is ∙ c.requires.first.2) in
    let h = together c.args.self.now.shapes c.args.self.now.begin c.first.inside.seat.table_id c.second.inside.seat.table_id c.first.inside.seat.me.0 c.second.inside.seat.me.0 c.join_seat.new.seat.me.0.parts c.first.invariant.1 c.second.invariant.1
    (ap (λ m. m.0.parts) own)
    (subst (λ (z : List Shape × List ℕ). AreShares z.0 z.1 c.join_seat.new.seat.me.0.parts) (λ i. (shapes i, begin i)) c.load.ensures.2.1) in
    subst (λ (z : SeatView × SeatView). StandTogether (begin_of c.args.self.now) z.0 z.1) (λ i. (c.first.view_is i, c.second.view_is i)) h
