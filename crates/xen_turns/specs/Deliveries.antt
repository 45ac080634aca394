-- Stated: claims rest on this file.
-- A delivery as a computation that asks, for a host that serves each event itself.
use Rattle.std.specs.Prelude.{ℕ, Bool, true, false, List, length, Option, Some, None}
use Rattle.xen_netif.specs.Offloads.{is_taken}
use Rattle.xen_netif.specs.declared.offload.Accepts.{Accepts}
use Rattle.xen_netif.specs.declared.offload.RxOffload.{RxOffload}
use Rattle.xen_steps.specs.Drive.{IsPageWant, IsPageWant-prop}
use Rattle.xen_steps.specs.Finish.{Finishes, Finishes-prop}
use Rattle.xen_steps.specs.Steps.{Steps, bind, done}
use Rattle.xen_rx_fill.specs.Transmit.{transmit}
use Rattle.xen_rx_fill.specs.declared.by_event.phase.TransmitOutcome.{TransmitOutcome}
use Rattle.xen_rx_fill.specs.declared.by_event.phase.TransmitOutcome.TheVariants as outcome
use Rattle.xen_rx_fill.specs.declared.vif.Vif.{Vif}
use Rattle.xen_turns.specs.Delivered.{is_frame}
use Rattle.xen_turns.specs.Responses.{after_slots}
use Rattle.xen_turns.specs.declared.delivery.delivering.Delivery.{Delivery}
use Rattle.xen_turns.specs.declared.delivery.delivering.Delivery.TheVariants as delivery
use Rattle.xen_turns.specs.declared.state.State.{State}
use Rattle.xen_turns.specs.declared.turn.Halt.{Halt}
use Rattle.xen_turns.specs.declared.turn.Halt.TheVariants as halt

-- The state after a delivery, and what became of the packet.
abbrev pub Arrival : Type 0
Arrival = State × Delivery

-- What a transmit of the host's packet comes to.
abbrev pub arrival : State → TransmitOutcome → Arrival
arrival s outcome.Overflow = (record s { halt = Some halt.RxProducer }, delivery.Halted halt.RxProducer)
arrival s outcome.TooFew = (s, delivery.FewSlots)
arrival s (outcome.Refused used) = (after_slots s used, delivery.Refused used)
arrival s (outcome.Sent used) = (after_slots s used, delivery.Sent used)

abbrev pub arrived : State → TransmitOutcome → Steps Arrival
arrived s o = done (arrival s o)

abbrev pub unless_halted : Vif → State → RxOffload → List ℕ → Option Halt → Steps Arrival
unless_halted w s o packet (Some cause) = done (s, delivery.Halted cause)
unless_halted w s o packet None = bind (transmit w s.rx_index o packet) (arrived s)

abbrev pub if_taken : Vif → State → RxOffload → List ℕ → Bool → Steps Arrival
if_taken w s o packet false = done (s, delivery.NotAccepted)
if_taken w s o packet true = unless_halted w s o packet s.halt

abbrev pub if_frame : Vif → Accepts → State → RxOffload → List ℕ → Bool → Steps Arrival
if_frame w accepts s o packet false = done (s, delivery.NoFrame)
if_frame w accepts s o packet true = if_taken w s o packet (is_taken accepts (length packet) o)

abbrev pub whole_delivery : Vif → Accepts → State → RxOffload → List ℕ → Steps Arrival
whole_delivery w accepts s o packet = if_frame w accepts s o packet (is_frame packet)

-- It ends, whatever it is answered, and until then wants nothing outside the frames.
abbrev pub Arrives : Vif → Steps Arrival → Type 0
Arrives w s = Finishes (IsPageWant (length w.owners.now)) s

pub Arrives-prop : (w : Vif) (s : Steps Arrival) → IsProp (Arrives w s)
Arrives-prop w s = Finishes-prop (IsPageWant (length w.owners.now)) (IsPageWant-prop (length w.owners.now)) s
