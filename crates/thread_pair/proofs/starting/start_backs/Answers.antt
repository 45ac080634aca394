use Rattle.std.proofs.Common.{arith, ℕ, suc, ◌≡◌, ◌∷◌, ◌++◌, [], All, List, append-nil, map, length, length-append, refl, sym, ap, ◌∙◌, subst, true≢false, vec_len}
use Rattle.std.specs.List.{range_with_len}
use Rattle.std.proofs.lemmas.List.Elements.{All-push}
use Rattle.bpf_maps.specs.Seats.{SeatView}
use Rattle.thread_pair.specs.Resources.{IsBackOf, falling, seat_number}
use Rattle.thread_pair.specs.Promised.{Child, PromisesSeatOf, promised, promised_number, promised_task}
use Rattle.thread_pair.specs.Working.{IsWork, Task, task_of}
use Rattle.thread_pair.specs.declared.resources.BackResources.{BackResources}
use Rattle.thread_pair.proofs.OrderLemmas.{popped_falls, pushed_rises}
use Rattle.thread_pair.proofs.ReturnLemmas.{last_of, empty_list}
use Rattle.thread_pair.proofs.starting.start_backs.Goals as goal

pub loop-own-init : goal.loop-own-init
loop-own-init g c =
    let none = c.requires.room.0 in
    record {
      shapes = c.requires.shapes;
      resources = c.requires.resources;
      promises = subst (All (PromisesSeatOf (task_of c.args.job.now.program.now c.args.job.now.listed.now.lists.items c.args.job.now.shared.now) c.args.job.now.turns c.args.counters.now)) (sym none) (λ i e h. absurd (omega (arith, h)));
      left = ap (λ (l : List Child). map seat_number c.args.resources.items ++ falling (length l)) none ∙ (append-nil (map seat_number c.args.resources.items) ∙ c.requires.numbers);
      started = subst (λ (l : List Child). map promised_number l ≡ range_with_len 0 (length l)) (sym none) refl;
      count = (let n = ap length none in let ok = c.args.backs.ok in omega arith);
      room = c.requires.room.1;
    }

pub loop-own-preserved : goal.loop-own-preserved
loop-own-preserved g c =
    let before = c.loop-own.invariant in
    let counters = c.args.counters.now in
    let split = c.in-Some.ensures.items in
    let known = last_of (IsBackOf counters c.args.job.now.shared.now.layout.queues) _ _ _ split before.resources in
    let task = task_of c.args.job.now.program.now c.args.job.now.listed.now.lists.items c.args.job.now.shared.now in
    let of = c.of-promise.ensures in
    let ok = c.in-Ok.ensures.ok in
    let is : promised c.in-Ok.back ≡ c.in-Some.own.seat = ap (λ p. p.seat.value) ok ∙ of.seat in
    let same : promised_task c.in-Ok.back ≡ task =
    let program = ap (λ p. p.program.value) ok ∙ of.program in
    let lists = ap (λ p. p.lists.value.items) ok ∙ ap (λ v. v.items) of.lists in
    let queues = ap (λ p. p.queues) ok ∙ of.queues in
    let ifindex = ap (λ p. p.ifindex) ok ∙ of.numbers.0 in
    let start = ap (λ p. p.start) ok ∙ of.numbers.1 in
    let host = ap (λ p. p.host) ok ∙ of.host in
    (λ i. record { program = program i; lists = lists i; queues = queues i; ifindex = ifindex i; start = start i; host = host i }) in
    let turns = ap (λ p. p.turns) ok ∙ of.numbers.2 in
    let pushed = c.push_reserved.ensures.items in
    let old = c.loop-own.backs.items in
    let n = ap length split in
    let m = length-append c.pop.new.self.items (c.in-Some.own ∷ []) in
    let longer : length c.push_reserved.new.self.items ≡ suc (length old) = ap length pushed ∙ (let k = length-append old (c.in-Ok.back ∷ []) in omega (arith, k)) in
    let lower = popped_falls seat_number c.pop.new.self.items c.in-Some.own (length old) (vec_len c.args.resources) (ap (λ (l : List BackResources). map seat_number l ++ falling (length old)) (sym split) ∙ before.left) in
    record {
      shapes = before.shapes;
      resources = known.0;
      promises = subst (All (PromisesSeatOf task c.args.job.now.turns counters)) (sym pushed)
          (All-push (PromisesSeatOf task c.args.job.now.turns counters) old c.in-Ok.back before.promises ((ap (λ (s : SeatView). s.table) (is ∙ known.1.seat), ap (λ (s : SeatView). s.shapes) (is ∙ known.1.seat), ap (λ (s : SeatView). s.begin) (is ∙ known.1.seat)), same, turns));
      left = ap (λ k. map seat_number c.pop.new.self.items ++ falling k) longer ∙ lower.1;
      started = subst (λ (l : List Child). map promised_number l ≡ range_with_len 0 (length l)) (sym pushed)
          (pushed_rises promised_number old c.in-Ok.back (ap (λ (s : SeatView). s.number) is ∙ lower.0) before.started);
      count = (let b = before.count in let l = c.push_reserved.ensures.len in omega arith);
      room = (let b = before.room in let p = c.push_reserved.ensures.capacity in omega arith);
    }

pub returns-clause-seats : goal.returns-clause-seats
returns-clause-seats g c = c.loop-own.invariant.promises

pub returns-clause-numbers : goal.returns-clause-numbers
returns-clause-numbers g c =
    let before = c.loop-own.invariant in
    let none : c.loop-own.resources.items ≡ [] = empty_list c.loop-own.resources.items (λ h. true≢false (sym (c.in_default.ensures.variant.1 (let ok = c.loop-own.resources.ok in omega arith)))) in
    let all : length c.loop-own.backs.items ≡ vec_len c.args.resources = (let n = ap length none in let ok = c.loop-own.resources.ok in let ok' = c.loop-own.backs.ok in let b = before.count in omega arith) in
    before.started ∙ ap (range_with_len 0) all

pub spawn_with-requires-clause-keeps : goal.spawn_with-requires-clause-keeps
spawn_with-requires-clause-keeps g c κs within r h =
    let counters = c.args.counters.now in
    let known = last_of (IsBackOf counters c.args.job.now.shared.now.layout.queues) _ _ _ c.in-Some.ensures.items c.loop-own.invariant.resources in
    let of = c.of-promise.ensures in
    let p = c.of-promise.result in
    let seat = of.seat ∙ known.1.seat in
    let task = task_of c.args.job.now.program.now c.as_slice-lists.result.now c.args.job.now.shared.now in
    let program = of.program in
    let lists = ap (λ v. v.items) of.lists ∙ sym c.as_slice-lists.ensures.value in
    let queues = of.queues in
    let ifindex = of.numbers.0 in
    let start = of.numbers.1 in
    let host = of.host in
    let told : Task = record { program = p.program.value; lists = p.lists.value.items; queues = p.queues; ifindex = p.ifindex; start = p.start; host = p.host } in
    let same : told ≡ task = (λ i. record { program = program i; lists = lists i; queues = queues i; ifindex = ifindex i; start = start i; host = host i }) in (
      h.0.0 ∙ sym (ap (λ (s : SeatView). s.table) seat),
      h.0.1 ∙ sym (ap (λ (s : SeatView). s.shapes) seat),
      h.0.2 ∙ sym (ap (λ (s : SeatView). s.begin) seat),
      h.1 ∙ sym (ap (λ (s : SeatView). s.number) of.seat),
      subst (λ (n : ℕ). IsWork told n r.row r.seat) (sym of.numbers.2) (subst (λ (k : Task). IsWork k c.args.job.now.turns r.row r.seat) (sym same) h.2),
    )
