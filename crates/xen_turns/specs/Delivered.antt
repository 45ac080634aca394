-- Stated: claims rest on this file.
-- A packet that the host delivers to the frontend: a row for each thing that may become of it.
use Rattle.std.specs.Prelude.{ℕ, ◌≡◌, Bool, true, false, List, [], length, Some, None, nat_lt, if◌then◌else◌}
use Rattle.xen_netif.specs.Offloads.{is_taken}
use Rattle.xen_netif.specs.declared.offload.Accepts.{Accepts}
use Rattle.xen_netif.specs.declared.offload.RxOffload.{RxOffload}
use Rattle.xen_steps.specs.Event.{Event}
use Rattle.xen_rx_fill.specs.Sending.{IsTransmit}
use Rattle.xen_rx_fill.specs.declared.by_event.phase.TransmitOutcome.TheVariants as outcome
use Rattle.xen_turns.specs.Responses.{after_slots}
use Rattle.xen_turns.specs.declared.delivery.delivering.Delivery.{Delivery}
use Rattle.xen_turns.specs.declared.delivery.delivering.Delivery.TheVariants as delivery
use Rattle.xen_turns.specs.declared.state.State.{State}
use Rattle.xen_turns.specs.declared.turn.Halt.{Halt}
use Rattle.xen_turns.specs.declared.turn.Halt.TheVariants as halt
use Rattle.xen_turns.specs.declared.wiring.Wiring.{Wiring}

-- An Ethernet header at least, and no more than a packet can have.
abbrev pub is_frame : List ℕ → Bool
is_frame packet = if nat_lt (length packet) 14 then false else if nat_lt 65535 (length packet) then false else true

-- And what it leaves to the frontend is accepted by it.
abbrev pub IsDeliverable : Accepts → RxOffload → List ℕ → Type 0
IsDeliverable accepts o packet = (is_frame packet ≡ true) × (is_taken accepts (length packet) o ≡ true)

-- What became of a packet, its trace, and the state after it.
pub data IsDelivery (w : Wiring) (s : State) (o : RxOffload) (packet : List ℕ) : List Event → State → Delivery → Type 0 where
  no_frame : is_frame packet ≡ false → IsDelivery w s o packet [] s delivery.NoFrame
  not_accepted : is_frame packet ≡ true → is_taken w.accepts (length packet) o ≡ false → IsDelivery w s o packet [] s delivery.NotAccepted
  still_halted : (cause : Halt) → IsDeliverable w.accepts o packet → s.halt ≡ Some cause → IsDelivery w s o packet [] s (delivery.Halted cause)
  overflown : (p : List Event) → IsDeliverable w.accepts o packet → s.halt ≡ None → IsTransmit w.vif s.rx_index o packet p outcome.Overflow →
      IsDelivery w s o packet p (record s { halt = Some halt.RxProducer }) (delivery.Halted halt.RxProducer)
  few : (p : List Event) → IsDeliverable w.accepts o packet → s.halt ≡ None → IsTransmit w.vif s.rx_index o packet p outcome.TooFew →
      IsDelivery w s o packet p s delivery.FewSlots
  refused : (p : List Event) (used : ℕ) → IsDeliverable w.accepts o packet → s.halt ≡ None →
      IsTransmit w.vif s.rx_index o packet p (outcome.Refused used) →
      IsDelivery w s o packet p (after_slots s used) (delivery.Refused used)
  sent : (p : List Event) (used : ℕ) → IsDeliverable w.accepts o packet → s.halt ≡ None → IsTransmit w.vif s.rx_index o packet p (outcome.Sent used) →
      IsDelivery w s o packet p (after_slots s used) (delivery.Sent used)
