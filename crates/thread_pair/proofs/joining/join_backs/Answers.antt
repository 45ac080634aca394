use Rattle.std.proofs.Common.{arith, ℕ, suc, ◌≡◌, ◌≢◌, ◌<◌, ◌∷◌, [], All, Contains, List, map, length, length-append, sym, ap, ◌∙◌, ◌⊎◌, inl, ⊎_elim, slice_get, refl, subst, true≢false, vec_len}
use Rattle.std.specs.Prelude.{option_map}
use Rattle.std.specs.List.{range_with_len}
use Rattle.std.proofs.lemmas.List.{map-append}
use Rattle.std.proofs.lemmas.List.Elements.{All-push}
use Rattle.bpf_maps.specs.Seats.{SeatView, IsSeatOf}
use Rattle.thread_pair.specs.Leaving.{back_of}
use Rattle.thread_pair.specs.Promised.{Child, PromisesSeatOf, promised_number}
use Rattle.thread_pair.specs.Working.{IsWork, Task}
use Rattle.thread_pair.proofs.NotingLemmas.{IsNoted, all_later, noted_now, worked_of}
use Rattle.thread_pair.proofs.OrderLemmas.{every_more, last_rises}
use Rattle.thread_pair.proofs.ReturnLemmas.{last_of, empty_list}
use Rattle.thread_pair.proofs.joining.join_backs.Goals as goal

pub loop-thread-init : goal.loop-thread-init
loop-thread-init g c =
    let none = c.requires.room.0 in
    let ok = c.args.threads.ok in
    let rows = c.requires.rows in
    record {
      kept = λ task turns d all. (
        all,
        subst (All (IsSeatOf d)) (sym none) (λ i e h. absurd (omega (arith, h))),
        subst (All (IsNoted task turns (length c.args.threads.items) c.args.rows.now.items)) (sym none) (λ i e h. absurd (omega (arith, h))),
      );
      numbers = c.requires.numbers ∙ (let n : vec_len c.args.threads ≡ length c.args.threads.items = omega arith in ap (range_with_len 0) n);
      every = λ q h. inl (omega (arith, h, rows, ok));
      rows = refl;
      few = omega (arith, rows);
      room = (let n = ap length none in let ok' = c.args.seats.ok in let r = c.requires.room.1 in omega arith);
    }

pub note_back-requires : goal.note_back-requires
note_back-requires g c =
    let n = ap length c.in-Some.ensures.items in
    let m = length-append c.pop.new.self.items (c.in-Some.thread ∷ []) in
    let ok = c.loop-thread.threads.ok in
    let few = c.loop-thread.invariant.few in
    let rows = c.loop-thread.invariant.rows in
    let l = c.len.ensures in
    omega arith

pub loop-thread-preserved : goal.loop-thread-preserved
loop-thread-preserved g c =
    let before = c.loop-thread.invariant in
    let kept = c.join-seat.ensures in
    let split = c.in-Some.ensures.items in
    let left = c.pop.new.self.items in
    let pushed = c.push_reserved.ensures.items in
    let n = ap length split in
    let m = length-append left (c.in-Some.thread ∷ []) in
    let longer : length c.loop-thread.threads.items ≡ suc (length left) = omega (arith, n, m) in
    let queue : c.len.result ≡ length left = (let l = c.len.ensures in omega arith) in
    let rises = last_rises promised_number left c.in-Some.thread (subst (λ (l : List Child). map promised_number l ≡ range_with_len 0 (length l)) split before.numbers) in
    let number = kept.3 ∙ rises.0 in
    let noted = c.note_back.ensures in
    record {
      kept = λ task turns d all.
          let both = before.kept task turns d all in
          let known = last_of (PromisesSeatOf task turns d) _ _ _ split both.0 in
          let others = subst (λ (k : ℕ). (j : ℕ) → j ≢ k → slice_get c.note_back.new.rows.items j ≡ slice_get c.loop-thread.rows.items j) queue noted.others in
          let work = subst (λ (k : ℕ). IsWork task k c.join-seat.result.row c.join-seat.result.seat) known.1.2 (subst (λ (k : Task). IsWork k c.in-Some.thread.promise.turns c.join-seat.result.row c.join-seat.result.seat) known.1.1 kept.4) in
          let now = noted_now task turns (length left) c.note_back.new.rows.items c.join-seat.result.seat c.join-seat.result.row number (ap (λ (k : ℕ). option_map back_of (slice_get c.note_back.new.rows.items k)) (sym queue) ∙ noted.noted) work in (
            known.0,
            subst (All (IsSeatOf d)) (sym pushed) (All-push (IsSeatOf d) c.loop-thread.seats.items c.join-seat.result.seat both.1 (kept.0 ∙ known.1.0.0, kept.1 ∙ known.1.0.1, kept.2 ∙ known.1.0.2)),
            subst (All (IsNoted task turns (length left) c.note_back.new.rows.items)) (sym pushed)
                (All-push (IsNoted task turns (length left) c.note_back.new.rows.items) c.loop-thread.seats.items c.join-seat.result.seat
                (all_later task turns (length left) (length c.loop-thread.threads.items) c.loop-thread.rows.items c.note_back.new.rows.items c.loop-thread.seats.items others longer both.2) now),
          );
      numbers = rises.1;
      every = λ q h.
          subst (λ (l : List SeatView). (q < length left) ⊎ Contains (map (λ (s : SeatView). s.number) l) q) (sym pushed)
          (subst (λ (l : List ℕ). (q < length left) ⊎ Contains l q) (sym (map-append (λ (s : SeatView). s.number) c.loop-thread.seats.items (c.join-seat.result.seat ∷ [])))
          (every_more q (length left) c.join-seat.result.seat.number (map (λ (s : SeatView). s.number) c.loop-thread.seats.items) number
          (subst (λ (k : ℕ). (q < k) ⊎ Contains (map (λ (s : SeatView). s.number) c.loop-thread.seats.items) q) longer (before.every q h))));
      rows = noted.count ∙ before.rows;
      few = (let b = before.few in let ok = c.loop-thread.threads.ok in let ok' = c.pop.new.self.ok in omega arith);
      room = (let b = before.room in let l = c.push_reserved.ensures.len in let p = c.push_reserved.ensures.capacity in omega arith);
    }

pub returns-clause-own : goal.returns-clause-own
returns-clause-own g c task turns d all =
    let kept = c.loop-thread.invariant.kept task turns d all in
    (kept.1, worked_of task turns _ _ _ kept.2)

pub returns-clause-numbers : goal.returns-clause-numbers
returns-clause-numbers g c q h =
    let none : c.loop-thread.threads.items ≡ [] = empty_list c.loop-thread.threads.items (λ h. true≢false (sym (c.in_default.ensures.variant.1 (let ok = c.loop-thread.threads.ok in omega arith)))) in
    ⊎_elim (λ (l : q < length c.loop-thread.threads.items). absurd (let n = ap length none in omega (arith, l))) (λ t. t) (c.loop-thread.invariant.every q h)
