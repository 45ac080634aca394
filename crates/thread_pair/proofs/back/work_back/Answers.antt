use Rattle.std.proofs.Common.{◌≡◌, ◌∙◌, ℕ, ◌≤◌, List, [], ◌∷◌, ◌++◌, Option, length, ap, sym, subst, refl, arith, inl, inr}
use Rattle.bpf_note.specs.declared.op.Op.{Op}
use Rattle.bpf_maps.specs.Seats.{SeatView}
use Rattle.xdp_world.specs.Core.{started_at}
use Rattle.xen_back.specs.Queues.{wiring_of}
use Rattle.xen_turns.specs.declared.state.State.{State}
use Rattle.xen_turns.specs.declared.wiring.Wiring.{Wiring}
use Rattle.xen_page.specs.declared.access.Access.{Access}
use Rattle.xen_page.proofs.AccessLemmas.{performs_none, performs_then}
use Rattle.xen_steps.specs.Drive.{accesses}
use Rattle.thread_pair.proofs.CountLemmas.{counts_few, end_after, rest_after}
use Rattle.thread_pair.proofs.WorkLemmas.{is_work, next_round}
use Rattle.thread_pair.specs.Working.{IsWiredFor, IsWorkOver, Task, Works, nothing, task_of}
use Rattle.thread_pair.specs.declared.report.BackRow.{BackRow}
use Rattle.thread_pair.proofs.back.work_back.Goals as goal
use Rattle.thread_pair.proofs.back.work_back.Goals.{else-loop-done-test, then-loop-done-test+in-Rests+then-last, then-loop-done-test+in-Ends}

pub loop-done-init : goal.loop-done-init
loop-done-init g c =
    let q = c.make_queue-queue.result in
    let made = c.make_queue-queue.ensures in
    let seat = c.requires.own.seat in
    let task = task_of c.args.program.now c.args.lists.now c.args.shared.now in
    let host = c.args.shared.now.host in
    record {
      ready = made.ready;
      size = c.requires.size ∙ ap length (sym made.wired.owners);
      shapes = c.requires.shapes ∙ ap (λ p. p.shapes) (sym made.wired.program);
      seat = (ap (λ (s : SeatView). s.table) seat, ap (λ (s : SeatView). s.shapes) seat, ap (λ (s : SeatView). s.begin) seat);
      number = refl;
      wired = subst (λ (n : ℕ). IsWiredFor task n (wiring_of q)) (sym (ap (λ (s : SeatView). s.number) seat)) made.wired;
      work = (
        [],
        [],
        refl,
        subst (λ (s : State). Works host (wiring_of q) (started_at c.args.shared.now.start) [] c.args.own.seat.ops [] s) (sym made.start)
            (subst (λ (l : List Op). Works host (wiring_of q) (started_at c.args.shared.now.start) [] l [] (started_at c.args.shared.now.start)) (sym (ap (λ (s : SeatView). s.ops) seat)) nothing),
        c.new-row.ensures,
        performs_none g.B.Bus.log g.B.Bus.access_gives c.args.bus.now,
      );
    }

pub drive_round-next-requires-clause-turns : goal.drive_round-next-requires-clause-turns
drive_round-next-requires-clause-turns g c =
    let i = c.loop-done.invariant in
    let few = counts_few i.work.0 c.loop-done.row i.work.4 in
    let n = i.work.2 in
    let t = c.loop-done-test.true in
    let copied = few.0 in
    let refused = few.1 in
    (omega arith, omega arith)

pub drive_round-next-requires-clause-deliveries : goal.drive_round-next-requires-clause-deliveries
drive_round-next-requires-clause-deliveries g c =
    let i = c.loop-done.invariant in
    let few = counts_few i.work.0 c.loop-done.row i.work.4 in
    let n = i.work.2 in
    let t = c.loop-done-test.true in
    let sent = few.2 in
    let short = few.3 in
    let lost = few.4 in
    (omega arith, omega arith, omega arith)

pub loop-done-preserved : goal.loop-done-preserved
loop-done-preserved g c =
    let i = c.loop-done.invariant in
    let o = c.drive_round-next.ensures.over in
    let s = c.drive_round-next.ensures.seat in
    let q = c.drive_round-next.new.queue in
    let task = task_of c.args.program.now c.args.lists.now c.args.shared.now in
    let one = next_round task.host c.loop-done.queue q c.args.shared.now.start c.loop-done.done _ _ i.work.1 o.trace o.sending o.turned o.sent o.is_round o.grown o.same.wiring i.work.0 i.work.2 i.work.3 in
    record {
      ready = o.ready;
      size = c.drive_round-next.ensures.size ∙ (i.size ∙ ap (λ (w : Wiring). length w.vif.owners.now) (sym o.same.wiring));
      shapes = i.shapes ∙ ap (λ (w : Wiring). w.program.now.shapes) (sym o.same.wiring);
      seat = (ap (λ (x : SeatView). x.table) s ∙ i.seat.0, ap (λ (x : SeatView). x.shapes) s ∙ i.seat.1, ap (λ (x : SeatView). x.begin) s ∙ i.seat.2);
      number = ap (λ (x : SeatView). x.number) s ∙ i.number;
      wired = subst (IsWiredFor task c.drive_round-next.new.seat.number) (sym o.same.wiring) (subst (λ (n : ℕ). IsWiredFor task n (wiring_of c.loop-done.queue)) (sym (ap (λ (x : SeatView). x.number) s)) i.wired);
      work = (
        (o.turned, o.sent) ∷ i.work.0,
        i.work.1 ++ (accesses o.trace ++ accesses o.sending),
        one.0,
        one.1,
        o.counts i.work.0 i.work.4,
        performs_then g.B.Bus.log g.B.Bus.access_gives c.args.bus.now c.loop-done.bus c.drive_round-next.new.bus i.work.1 (accesses o.trace ++ accesses o.sending) i.work.5 o.performed,
      );
    }

work_of : {S : Type 0} (log : S → Option (List Access)) (gives : S → Access → S → Type 0) (task : Task) (turns : ℕ) (bus : S) {row row' : BackRow} {seat seat' : SeatView} {after after' : S} →
    row' ≡ row → seat' ≡ seat → after' ≡ after → IsWorkOver log gives task turns row seat bus after → IsWorkOver log gives task turns row' seat' bus after'
work_of log gives task turns bus {row} {row'} {seat} {seat'} {after} {after'} same_row same_seat same_bus h =
    subst (IsWorkOver log gives task turns row' seat' bus) (sym same_bus)
    (subst (λ (s : SeatView). IsWorkOver log gives task turns row' s bus after) (sym same_seat) (subst (λ (r : BackRow). IsWorkOver log gives task turns r seat bus after) (sym same_row) h))

pub returns-clause-work : goal.returns-clause-work
returns-clause-work g c =
    let i = c.loop-done.invariant in
    let task = task_of c.args.program.now c.args.lists.now c.args.shared.now in
    let start = c.args.shared.now.start in
    let old = c.loop-done.queue in
    let turns = c.args.turns in
    let log = g.B.Bus.log in
    let gives = g.B.Bus.access_gives in
    let first = c.args.bus.now in
    elim c.loop-done-test.branch [
      | else-loop-done-test w ↦
          let all : length i.work.0 ≡ turns = (let e = c.loop-done.auto.done-end in let f = w.loop-done-test.false in let n = i.work.2 in omega arith) in
          work_of log gives task turns first w.row-is w.seat-is w.bus-is (is_work log gives task turns c.loop-done.row c.loop-done.seat old i.work.0 i.work.1 first c.loop-done.bus i.wired i.work.3 (omega (arith, all)) (inl all) i.work.4 i.work.5)
      | then-loop-done-test+in-Rests+then-last w ↦
          let o = w.drive_round-next.ensures.over in
          let s = w.drive_round-next.ensures.seat in
          let q = w.drive_round-next.new.queue in
          let one = next_round task.host old q start c.loop-done.done _ _ i.work.1 o.trace o.sending o.turned o.sent o.is_round o.grown o.same.wiring i.work.0 i.work.2 i.work.3 in
          let wired = subst (IsWiredFor task w.drive_round-next.new.seat.number) (sym o.same.wiring) (subst (λ (n : ℕ). IsWiredFor task n (wiring_of old)) (sym (ap (λ (x : SeatView). x.number) s)) i.wired) in
          let few : length ((o.turned, o.sent) ∷ i.work.0) ≤ turns = (let t = w.loop-done-test.true in let n = one.0 in omega arith) in
          let performed = performs_then log gives first c.loop-done.bus w.drive_round-next.new.bus i.work.1 (accesses o.trace ++ accesses o.sending) i.work.5 o.performed in
          work_of log gives task turns first w.row-is w.seat-is w.bus-is (is_work log gives task turns w.drive_round-next.new.row w.drive_round-next.new.seat q ((o.turned, o.sent) ∷ i.work.0) (i.work.1 ++ (accesses o.trace ++ accesses o.sending)) first w.drive_round-next.new.bus wired one.1 few (inr (rest_after o.turned _ o.goes w.in-Rests.is)) (o.counts i.work.0 i.work.4) performed)
      | then-loop-done-test+in-Ends w ↦
          let o = w.drive_round-next.ensures.over in
          let s = w.drive_round-next.ensures.seat in
          let q = w.drive_round-next.new.queue in
          let one = next_round task.host old q start c.loop-done.done _ _ i.work.1 o.trace o.sending o.turned o.sent o.is_round o.grown o.same.wiring i.work.0 i.work.2 i.work.3 in
          let wired = subst (IsWiredFor task w.drive_round-next.new.seat.number) (sym o.same.wiring) (subst (λ (n : ℕ). IsWiredFor task n (wiring_of old)) (sym (ap (λ (x : SeatView). x.number) s)) i.wired) in
          let few : length ((o.turned, o.sent) ∷ i.work.0) ≤ turns = (let t = w.loop-done-test.true in let n = one.0 in omega arith) in
          let performed = performs_then log gives first c.loop-done.bus w.drive_round-next.new.bus i.work.1 (accesses o.trace ++ accesses o.sending) i.work.5 o.performed in
          work_of log gives task turns first w.row-is w.seat-is w.bus-is (is_work log gives task turns w.drive_round-next.new.row w.drive_round-next.new.seat q ((o.turned, o.sent) ∷ i.work.0) (i.work.1 ++ (accesses o.trace ++ accesses o.sending)) first w.drive_round-next.new.bus wired one.1 few (inr (end_after o.turned _ o.goes w.in-Ends.is)) (o.counts i.work.0 i.work.4) performed)
    ]
