-- Stated: claims rest on this file.
-- A delivery as a computation that asks, for a host that serves each event itself.
use Rattle.xen_steps.specs.Steps.{Steps, bind, done}
use Rattle.xen_rx_fill.specs.Rest.{rest_of}
use Rattle.xen_rx_fill.specs.declared.vif.Vif.{Vif}
use Rattle.xen_back.specs.declared.delivery.moving.Moving.{Moving}
use Rattle.xen_back.specs.declared.delivery.moving.Moving.TheVariants as moving
use Rattle.xen_turns.specs.declared.state.State.{State}
use Rattle.xen_turns.specs.Deliveries.{Arrival, arrived}

-- What is left of a delivery that came so far.
abbrev pub rest_moving : Vif → State → Moving → Steps Arrival
rest_moving w s (moving.Sending m) = bind (rest_of w s.rx_index m.packet.offload m.packet.bytes.now m.transmit.phase) (arrived s)
rest_moving w s (moving.Over after what) = done (after, what)
