use Rattle.std.proofs.Common.{arith, ◌≡◌, ◌∙◌, ◌+◌, ◌%◌, ℕ, All, length, ap, List, subst, sum_by, sym}
use Rattle.bpf_maps.specs.Beginning.{given}
use Rattle.bpf_maps.specs.Seats.{SeatView, begin_of}
use Rattle.bpf_note.specs.History.{added}
use Rattle.bpf_note.specs.Shape.{Shape, IsCounter}
use Rattle.thread_pair.proofs.SeatLemmas.{first_given, length_new}
use Rattle.thread_pair.specs.Leaving.{HasWorked}
use Rattle.thread_pair.specs.Working.{Task, task_for, task_of, values_in}
use Rattle.thread_pair.proofs.pairing.pair_over.Goals as goal

pub make_backs-requires-clause-seats : goal.make_backs-requires-clause-seats
make_backs-requires-clause-seats g c =
    let n = ap length c.in_ok-counters.ensures.seats in
    let m = length_new c.in_ok-counters.counters c.args.job.now.listed.now.setup.queues in
    let s = c.requires.shared in
    omega arith

pub close-requires-clause-every : goal.close-requires-clause-every
close-requires-clause-every g c q below =
    let many = c.in_ok-counters.ensures.counters.1 in
    let all = c.in_ok-backs.ensures.count in
    let queues = c.requires.shared in
    c.in_ok-seats.ensures.2 q (omega arith)

-- what was added at all seats
abbrev sum_of : List SeatView → ℕ → ℕ → ℕ → ℕ
sum_of seats m k j = sum_by (λ (s : SeatView). sum_by (added m k j) s.ops) seats

pub returns-clause-account : goal.returns-clause-account
returns-clause-account g c =
    let queues = c.requires.shared in
    let ifindex = c.requires.numbers.0 in
    let start = c.requires.numbers.1 in
    let same : task_of c.args.job.now.program.now c.args.job.now.listed.now.lists.items c.args.job.now.shared.now ≡ task_for c.args.job.now.program.now c.args.job.now.listed.now c.args.job.now.shared.now.host = (λ i. record { program = c.args.job.now.program.now; lists = c.args.job.now.listed.now.lists.items; queues = queues i; ifindex = ifindex i; start = start i; host = c.args.job.now.shared.now.host }) in
    record {
      seats = c.in_ok-seats.seats.items;
      every = λ q below. (let all = c.in_ok-backs.ensures.count in c.in_ok-seats.ensures.2 q (omega (arith, below, all, queues, c.in_ok-seats.ensures.3)));
      worked = subst (λ (t : Task). All (HasWorked t c.args.job.now.turns c.in_ok-seats.rows.items) c.in_ok-seats.seats.items) same c.in_ok-seats.ensures.1;
      begin = begin_of c.in_ok-counters.counters;
      begins = λ m k j is. first_given c.shapes.result.now _ _ m k j (c.in_ok-counters.ensures.begin m k j) (c.in_ok-first.ensures.begins m k j (subst (λ (l : List Shape). IsCounter l m k j) (c.close.ensures.shapes ∙ c.in_ok-counters.ensures.counters.0 ∙ c.in_ok-first.ensures.shapes) is)) c.as_slice.ensures.value ∙ ap (λ (l : List Shape). given l (values_in c.args.job.now.listed.now) m k j) (sym (c.close.ensures.shapes ∙ c.in_ok-counters.ensures.counters.0 ∙ c.in_ok-first.ensures.shapes));
      account = c.close.ensures.history;
      sums = λ m k j is.
          let shapes = c.close.ensures.shapes ∙ c.in_ok-counters.ensures.counters.0 ∙ c.in_ok-first.ensures.shapes in
          c.close.ensures.sums m k j (subst (λ (l : List Shape). IsCounter l m k j) c.close.ensures.shapes is)
          ∙ ap (λ (n : ℕ). (n + sum_of c.in_ok-seats.seats.items m k j) % 18446744073709551616)
          (first_given c.shapes.result.now _ _ m k j (c.in_ok-counters.ensures.begin m k j) (c.in_ok-first.ensures.begins m k j (subst (λ (l : List Shape). IsCounter l m k j) shapes is)) c.as_slice.ensures.value ∙ ap (λ (l : List Shape). given l (values_in c.args.job.now.listed.now) m k j) (sym shapes));
    }
