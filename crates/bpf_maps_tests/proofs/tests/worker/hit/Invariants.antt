use Rattle.std.proofs.Common.{◌≡◌, ◌+◌, ◌*◌, sum_by}
use Rattle.bpf_note.specs.History.{added}
use Rattle.bpf_maps.specs.Seats.{IsSeatOf}
use Rattle.bpf_maps_tests.proofs.tests.worker.hit.Given as goal

abbrev pub invariant-loop-time : goal.invariant-loop-time
invariant-loop-time l = IsSeatOf l.counters l.seat × (l.seat.number ≡ l.initial.seat.number) × (sum_by (added 0 0 0) l.seat.ops ≡ sum_by (added 0 0 0) l.initial.seat.ops + l._time * l.delta)
