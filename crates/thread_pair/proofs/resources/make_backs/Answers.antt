use Rattle.std.proofs.Common.{arith, ◌≡◌, ◌∷◌, ◌++◌, [], All, List, append-nil, length, length-append, map, suc, sym, ap, ◌∙◌, subst, true≢false}
use Rattle.std.proofs.lemmas.List.Elements.{All-push}
use Rattle.bpf_maps.specs.Seats.{SeatView, new_seat, new_seats}
use Rattle.thread_pair.specs.Resources.{IsBackOf, falling, seat_number}
use Rattle.thread_pair.specs.declared.resources.BackResources.{BackResources}
use Rattle.thread_pair.proofs.OrderLemmas.{pushed_falls}
use Rattle.thread_pair.proofs.ReturnLemmas.{empty_list}
use Rattle.thread_pair.proofs.SeatLemmas.{last_new, length_new}
use Rattle.thread_pair.proofs.resources.make_backs.Goals as goal

pub loop-seat-init : goal.loop-seat-init
loop-seat-init c = (
  (let a = c.requires.seats in let b = c.requires.parkers in omega arith),
  (let a = c.requires.seats in let n = c.in_ok-backs.ensures.items in let l = ap length n in let ok = c.in_ok-backs.backs.ok in omega arith),
  λ d new.
      let n : length c.args.seats.items ≡ c.args.shared.now.layout.queues = ap length new ∙ length_new d c.args.shared.now.layout.queues in (
        new ∙ ap (new_seats d) (sym n),
        subst (All (IsBackOf d c.args.shared.now.layout.queues)) (sym c.in_ok-backs.ensures.items) (λ i e h. absurd (omega (arith, h))),
        ap (λ (l : List BackResources). map seat_number l ++ falling (length c.args.seats.items)) c.in_ok-backs.ensures.items ∙ ap falling n,
      ),
)

pub loop-seat-preserved : goal.loop-seat-preserved
loop-seat-preserved c =
    let before = c.loop-seat.invariant in
    let queues = c.args.shared.now.layout.queues in
    let split = c.in-Some.ensures.items in
    let n = ap length split in
    let m = length-append c.pop.new.self.items (c.in-Some.seat ∷ []) in
    let n' = ap length c.in-Some-pop.ensures.items in
    let m' = length-append c.pop-in-Some.new.self.items (c.in-Some-pop.parker ∷ []) in (
      (let b = before.0 in omega arith),
      (let b = before.1 in let l = c.in_ok-push.ensures.len in omega arith),
      λ d new.
          let all = before.2 d new in
          let last = last_new d c.loop-seat.seats.items c.pop.new.self.items c.in-Some.seat split all.0 in
          let below : length c.loop-seat.seats.items ≡ suc (length c.pop.new.self.items) = omega (arith, n, m) in (
            last.0,
            subst (All (IsBackOf d queues)) (sym c.in_ok-push.ensures.items)
                (All-push (IsBackOf d queues) c.loop-seat.backs.items _ all.1
                (record {
                  queue = (let b = before.1 in let l = c.len-queue.ensures in omega arith);
                  tx = c.in_ok-tx.ensures.lent;
                  rx = c.in_ok-rx.ensures.lent;
                  tx_frame = c.in_ok-tx.ensures.frame;
                  rx_frame = c.in_ok-rx.ensures.frame;
                  tx_writable = c.in_ok-tx.ensures.rights;
                  rx_writable = c.in_ok-rx.ensures.rights;
                  seat = last.1 ∙ ap (new_seat d) (let l = c.len-queue.ensures in omega arith);
                })),
            ap (λ (l : List BackResources). map seat_number l ++ falling (length c.pop.new.self.items)) c.in_ok-push.ensures.items
                ∙ pushed_falls seat_number c.loop-seat.backs.items _ (length c.pop.new.self.items) queues (ap (λ (s : SeatView). s.number) last.1)
                (ap (λ k. map seat_number c.loop-seat.backs.items ++ falling k) (sym below) ∙ all.2),
          ),
    )

pub returns-clause-own : goal.returns-clause-own
returns-clause-own c d new =
    let none : c.loop-seat.seats.items ≡ [] = empty_list c.loop-seat.seats.items (λ h. true≢false (sym (c.in_default.ensures.variant.1 (let ok = c.loop-seat.seats.ok in omega arith)))) in
    let all = c.loop-seat.invariant.2 d new in
    (all.1, sym (append-nil (map seat_number c.loop-seat.backs.items)) ∙ (ap (λ (l : List SeatView). map seat_number c.loop-seat.backs.items ++ falling (length l)) (sym none) ∙ all.2))
