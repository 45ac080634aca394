use Rattle.std.proofs.Common.{ℕ, All, Contains, map, length, vec_len, vec_capacity, ◌⊎◌, ◌≡◌, ◌<◌, ◌≤◌, ◌+◌}
use Rattle.std.specs.List.{range_with_len}
use Rattle.bpf_maps.specs.Seats.{SeatView, CountersView, IsSeatOf}
use Rattle.thread_pair.specs.Promised.{PromisesSeatOf, promised_number}
use Rattle.thread_pair.specs.Working.{Task}
use Rattle.thread_pair.proofs.NotingLemmas.{IsNoted}
use Rattle.thread_pair.proofs.joining.join_backs.Given as goal

abbrev pub invariant-loop-thread : goal.invariant-loop-thread
invariant-loop-thread g l =
    record {
      kept : (task : Task) (turns : ℕ) (c : CountersView) → All (PromisesSeatOf task turns c) l.fn.threads.items → All (PromisesSeatOf task turns c) l.threads.items × All (IsSeatOf c) l.seats.items × All (IsNoted task turns (length l.threads.items) l.rows.items) l.seats.items;
      numbers : map promised_number l.threads.items ≡ range_with_len 0 (length l.threads.items);
      every : (q : ℕ) → q < vec_len l.initial.rows → (q < length l.threads.items) ⊎ Contains (map (λ (s : SeatView). s.number) l.seats.items) q;
      rows : vec_len l.rows ≡ vec_len l.initial.rows;
      few : vec_len l.threads ≤ vec_len l.initial.rows;
      room : vec_len l.threads + vec_len l.seats ≤ vec_capacity l.seats;
    }

abbrev pub decreases-loop-thread : goal.decreases-loop-thread
decreases-loop-thread g l = vec_len l.threads
