use Rattle.std.proofs.Common.{arith, All, Contains, List, map, sym, subst}
use Rattle.bpf_maps.specs.Seats.{SeatView, IsSeatOf}
use Rattle.bpf_maps.proofs.EverySeatLemmas.{every_new, new_own}
use Rattle.bpf_maps_tests.proofs.tests.eight_threads.many.Goals as goal

pub run_all-requires-clause-own : goal.run_all-requires-clause-own
run_all-requires-clause-own g c κs within = subst (All (IsSeatOf c.in_ok-counters.counters)) (sym c.in_ok-counters.ensures.seats) (new_own c.in_ok-counters.counters c.args.seats)

pub close-requires-clause-every : goal.close-requires-clause-every
close-requires-clause-every g c q below =
    let many = c.in_ok-counters.ensures.counters.1 in
    c.in_ok-back.ensures.1 q (subst (λ (l : List SeatView). Contains (map (λ (s : SeatView). s.number) l) q) (sym c.in_ok-counters.ensures.seats) (every_new c.in_ok-counters.counters c.args.seats q (omega arith)))
