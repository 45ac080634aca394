use Rattle.std.proofs.Common.{All, map, length, vec_len, vec_capacity, ◌≡◌, ◌≤◌, ◌+◌, ◌++◌}
use Rattle.std.specs.List.{range_with_len}
use Rattle.thread_pair.specs.Resources.{IsBackOf, falling, seat_number}
use Rattle.thread_pair.specs.Promised.{PromisesSeatOf, promised_number}
use Rattle.thread_pair.specs.Working.{task_of}
use Rattle.thread_pair.proofs.starting.start_backs.Given as goal

abbrev pub invariant-loop-own : goal.invariant-loop-own
invariant-loop-own g l =
    record {
      shapes : l.counters.shapes ≡ l.program.shapes;
      resources : All (IsBackOf l.counters l.shared.layout.queues) l.resources.items;
      promises : All (PromisesSeatOf (task_of l.program l.listed.lists.items l.shared) l.turns l.counters) l.backs.items;
      left : map seat_number l.resources.items ++ falling (length l.backs.items) ≡ falling (vec_len l.fn.resources);
      started : map promised_number l.backs.items ≡ range_with_len 0 (length l.backs.items);
      count : vec_len l.resources + vec_len l.backs ≡ vec_len l.fn.resources;
      room : vec_len l.fn.resources ≤ vec_capacity l.backs;
    }

abbrev pub decreases-loop-own : goal.decreases-loop-own
decreases-loop-own g l = vec_len l.resources
