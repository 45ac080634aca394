use Rattle.std.proofs.Common.{◌≡◌, ◌≤◌, ℕ, ◌+◌, ◌*◌, List, true, length, arith}
use Rattle.std.proofs.lemmas.Bool.Decides.{nat_tests}
use Rattle.xen_netif.specs.Offloads.{has_extra}
use Rattle.xen_netif.specs.declared.offload.RxOffload.{RxOffload}
use Rattle.xen_steps.specs.Drive.{accesses, notices_in}
use Rattle.xen_steps.specs.Event.{Event}
use Rattle.xen_rx_fill.specs.Touched.{AllAllowed}
use Rattle.xen_rx_fill.specs.declared.by_event.phase.TransmitOutcome.TheVariants as outcome
use Rattle.xen_rx_fill.proofs.Figures.{extras, most_transmit, n_any, n_none, n_transmit}
use Rattle.xen_rx_fill.proofs.TouchedLemmas.{of_transmit}
use Rattle.xen_turns.specs.Delivered.{IsDelivery, few, is_frame, no_frame, not_accepted, overflown, refused, sent, still_halted}
use Rattle.xen_turns.specs.declared.delivery.delivering.Delivery.{Delivery}
use Rattle.xen_turns.specs.declared.state.State.{State}
use Rattle.xen_turns.specs.declared.wiring.Wiring.{Wiring}
use Rattle.xen_turns.proofs.laws.deliveries_are_bounded.Goals as goal

short : (packet : List ℕ) → is_frame packet ≡ true → length packet ≤ 65535
short packet f = grind (arith, nat_tests)

n_delivery : (w : Wiring) (s : State) (o : RxOffload) (packet : List ℕ) (p : List Event) (after : State) (what : Delivery) → IsDelivery w s o packet p after what → length (accesses p) ≤ 16483 + 4 * extras (has_extra o)
n_delivery w s o packet _ _ _ (no_frame f) = omega arith
n_delivery w s o packet _ _ _ (not_accepted f t) = omega arith
n_delivery w s o packet _ _ _ (still_halted cause f h) = omega arith
n_delivery w s o packet _ _ _ (overflown p f h t) = n_transmit w.vif s.rx_index o packet p outcome.Overflow (short packet f.0) t
n_delivery w s o packet _ _ _ (few p f h t) = n_transmit w.vif s.rx_index o packet p outcome.TooFew (short packet f.0) t
n_delivery w s o packet _ _ _ (refused p used f h t) = n_transmit w.vif s.rx_index o packet p (outcome.Refused used) (short packet f.0) t
n_delivery w s o packet _ _ _ (sent p used f h t) = n_transmit w.vif s.rx_index o packet p (outcome.Sent used) (short packet f.0) t

of_delivery : (w : Wiring) (s : State) (o : RxOffload) (packet : List ℕ) (p : List Event) (after : State) (what : Delivery) → IsDelivery w s o packet p after what → AllAllowed w.vif p p
of_delivery w s o packet _ _ _ (no_frame f) = tt
of_delivery w s o packet _ _ _ (not_accepted f t) = tt
of_delivery w s o packet _ _ _ (still_halted cause f h) = tt
of_delivery w s o packet _ _ _ (overflown p f h t) = of_transmit w.vif s.rx_index o packet p outcome.Overflow t
of_delivery w s o packet _ _ _ (few p f h t) = of_transmit w.vif s.rx_index o packet p outcome.TooFew t
of_delivery w s o packet _ _ _ (refused p used f h t) = of_transmit w.vif s.rx_index o packet p (outcome.Refused used) t
of_delivery w s o packet _ _ _ (sent p used f h t) = of_transmit w.vif s.rx_index o packet p (outcome.Sent used) t

told_once : (w : Wiring) (s : State) (o : RxOffload) (packet : List ℕ) (p : List Event) (after : State) (what : Delivery) → IsDelivery w s o packet p after what → notices_in p ≤ 1
told_once w s o packet _ _ _ (no_frame f) = omega arith
told_once w s o packet _ _ _ (not_accepted f t) = omega arith
told_once w s o packet _ _ _ (still_halted cause f h) = omega arith
told_once w s o packet _ _ _ (overflown p f h t) = (most_transmit w.vif s.rx_index o packet p outcome.Overflow t).told
told_once w s o packet _ _ _ (few p f h t) = (most_transmit w.vif s.rx_index o packet p outcome.TooFew t).told
told_once w s o packet _ _ _ (refused p used f h t) = (most_transmit w.vif s.rx_index o packet p (outcome.Refused used) t).told
told_once w s o packet _ _ _ (sent p used f h t) = (most_transmit w.vif s.rx_index o packet p (outcome.Sent used) t).told

pub returns : goal.returns
returns c =
    record {
      accesses = λ w s o packet p after what d. n_any (has_extra o) (length (accesses p)) (n_delivery w s o packet p after what d);
      plain_accesses = λ w s o packet p after what none d. n_none (has_extra o) (length (accesses p)) none (n_delivery w s o packet p after what d);
      notices = told_once;
      touches = of_delivery;
    }
