use Rattle.std.proofs.Common.{ℕ, All, Contains, map, vec_len, ◌⊎◌}
use Rattle.std.specs.declared.thread.PromisedHandle.{PromisedHandle}
use Rattle.bpf_maps_tests.specs.declared.tests.eight_threads.SeatBack.{SeatBack}
use Rattle.bpf_maps.specs.Seats.{SeatView, CountersView, IsSeatOf}
use Rattle.bpf_maps_tests.proofs.tests.eight_threads.join_all.Given as goal

abbrev Child : Type 0
Child = PromisedHandle SeatView SeatBack

-- the seat that the thread was lent
abbrev promised : Child → SeatView
promised h = h.promise.0.value

abbrev promised_number : Child → ℕ
promised_number h = h.promise.0.value.number

abbrev PromisesSeatOf : CountersView → Child → Type 0
PromisesSeatOf c h = IsSeatOf c h.promise.0.value

abbrev pub invariant-loop-child : goal.invariant-loop-child
invariant-loop-child g l = ((c : CountersView) → All (PromisesSeatOf c) l.fn.children.items → All (PromisesSeatOf c) l.children.items × All (IsSeatOf c) l.seats.items)
    × ((q : ℕ) → Contains (map promised_number l.fn.children.items) q → Contains (map promised_number l.children.items) q ⊎ Contains (map (λ (s : SeatView). s.number) l.seats.items) q)

abbrev pub decreases-loop-child : goal.decreases-loop-child
decreases-loop-child g l = vec_len l.children
