use Rattle.std.proofs.Common.{◌≡◌, ◌+◌, ◌++◌, All, length, map, vec_len}
use Rattle.bpf_maps.specs.Seats.{CountersView, new_seats}
use Rattle.thread_pair.specs.Resources.{IsBackOf, falling, seat_number}
use Rattle.thread_pair.proofs.resources.make_backs.Given as goal

abbrev pub invariant-loop-seat : goal.invariant-loop-seat
invariant-loop-seat l =
    (vec_len l.seats ≡ vec_len l.parkers) × (vec_len l.backs + vec_len l.seats ≡ l.shared.layout.queues)
    × ((c : CountersView) → l.fn.seats.items ≡ new_seats c l.shared.layout.queues → (l.seats.items ≡ new_seats c (length l.seats.items)) × All (IsBackOf c l.shared.layout.queues) l.backs.items × (map seat_number l.backs.items ++ falling (length l.seats.items) ≡ falling l.shared.layout.queues))

abbrev pub decreases-loop-seat : goal.decreases-loop-seat
decreases-loop-seat l = vec_len l.seats
