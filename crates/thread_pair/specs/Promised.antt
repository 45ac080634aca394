-- For proofs: no claim rests on this file.
-- What a back thread that was lent a seat has promised.
use Rattle.std.specs.Prelude.{ℕ, ◌≡◌}
use Rattle.std.specs.declared.thread.PromisedHandle.{PromisedHandle}
use Rattle.bpf_maps.specs.Seats.{CountersView, SeatView, IsSeatOf}
use Rattle.thread_pair.specs.Working.{Task}
use Rattle.thread_pair.specs.declared.back.BackDone.{BackDone}
use Rattle.thread_pair.specs.declared.back.SeatBack.{SeatBack}

abbrev pub Child : Type 0
Child = PromisedHandle BackDone SeatBack

-- the seat that the thread was lent
abbrev pub promised : Child → SeatView
promised h = h.promise.seat.value

abbrev pub promised_number : Child → ℕ
promised_number h = (promised h).number

-- the task of the promise
abbrev pub promised_task : Child → Task
promised_task h = record {
  program = h.promise.program.value;
  lists = h.promise.lists.value.items;
  queues = h.promise.queues;
  ifindex = h.promise.ifindex;
  start = h.promise.start;
  host = h.promise.host;
}

abbrev pub PromisesSeatOf : Task → ℕ → CountersView → Child → Type 0
PromisesSeatOf task turns c h = IsSeatOf c (promised h) × (promised_task h ≡ task) × (h.promise.turns ≡ turns)
