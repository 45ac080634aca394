use Rattle.std.proofs.Common.{ℕ, All, Contains, map, vec_len, ◌⊎◌}
use Rattle.std.specs.declared.thread.PromisedHandle.{PromisedHandle}
use Rattle.bpf_maps_tests.specs.declared.tests.eight_threads.SeatBack.{SeatBack}
use Rattle.bpf_maps.specs.Seats.{SeatView, CountersView, IsSeatOf}
use Rattle.bpf_maps_tests.proofs.tests.eight_threads.spawn_all.Given as goal

abbrev Child : Type 0
Child = PromisedHandle SeatView SeatBack

-- the seat that the thread was lent
abbrev promised : Child → SeatView
promised h = h.promise.0.value

abbrev promised_number : Child → ℕ
promised_number h = h.promise.0.value.number

abbrev PromisesSeatOf : CountersView → Child → Type 0
PromisesSeatOf c h = IsSeatOf c h.promise.0.value

abbrev pub invariant-loop-seat : goal.invariant-loop-seat
invariant-loop-seat g l = All (IsSeatOf l.counters) l.seats.items
    × All (PromisesSeatOf l.counters) l.children.items
    × ((q : ℕ) → Contains (map (λ (s : SeatView). s.number) l.fn.seats.items) q → Contains (map (λ (s : SeatView). s.number) l.seats.items) q ⊎ Contains (map promised_number l.children.items) q)

abbrev pub decreases-loop-seat : goal.decreases-loop-seat
decreases-loop-seat g l = vec_len l.seats
