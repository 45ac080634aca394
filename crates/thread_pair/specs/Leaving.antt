-- Stated: claims rest on this file.
-- What the queues leave in their rows and in the counters.
use Rattle.std.specs.Prelude.{ℕ, ◌≡◌, ◌<◌, ◌+◌, ◌%◌, ◌^◌, List, All, Contains, Some, map, option_map, slice_get, sum_by}
use Rattle.bpf_note.specs.History.{added}
use Rattle.bpf_note.specs.Shape.{IsCounter}
use Rattle.bpf_maps.specs.Beginning.{Beginning, given}
use Rattle.bpf_maps.specs.Seats.{Account, SeatView, total_at}
use Rattle.thread_pair.specs.Working.{IsWork, Task}
use Rattle.thread_pair.specs.declared.report.BackRow.{BackRow}
use Rattle.thread_pair.specs.declared.report.PairReport.{PairReport}
use Rattle.thread_pair.specs.declared.report.PairRow.{PairRow}

-- What a queue's row says of its back.
abbrev pub back_of : PairRow → BackRow
back_of r = record { copied = r.copied; refused = r.refused; halted = r.halted; deliveries = r.deliveries }

-- What was done at a seat was done by whole rounds of the queue with its number, and that queue's row counts them.
pub record HasWorked (task : Task) (turns : ℕ) (rows : List PairRow) (s : SeatView) : Type 0 where
  pub row : BackRow
  pub at : option_map back_of (slice_get rows s.number) ≡ Some row
  pub work : IsWork task turns row s

-- Each queue had a seat, and what was done at it was done by whole rounds of its queue, which its row counts. It all stands in one legal
-- history from counters that begin with the numbers of these lists, and the totals are what that leaves: their beginning and the sums of
-- what was added.
pub record AreLeft (task : Task) (values : List (List ℕ)) (turns : ℕ) (r : PairReport) : Type 0 where
  pub begin : Beginning
  pub begins : (m k j : ℕ) → IsCounter r.totals.shapes m k j → begin m k j ≡ given r.totals.shapes values m k j
  pub seats : List SeatView
  pub every : (q : ℕ) → q < task.queues → Contains (map (λ (s : SeatView). s.number) seats) q
  pub worked : All (HasWorked task turns r.rows.items) seats
  pub account : Account begin seats r.totals
  pub sums : (m k j : ℕ) → IsCounter r.totals.shapes m k j →
      total_at r.totals m k j ≡ (given r.totals.shapes values m k j + sum_by (λ (s : SeatView). sum_by (added m k j) s.ops) seats) % 2 ^ 64
