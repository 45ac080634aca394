use Rattle.std.proofs.Common.{sym, subst}
use Rattle.xen_steps.specs.Steps.{Steps}
use Rattle.xen_rx_fill.specs.declared.vif.Vif.{Vif}
use Rattle.xen_turns.specs.Deliveries.{Arrival, Arrives}
use Rattle.xen_back.specs.Deliveries.{rest_moving}
use Rattle.xen_turns.proofs.ArriveLemmas.{arrives}
use Rattle.xen_back.proofs.delivery.by_event.underway.Goals as goal

pub invariant_of-result : goal.invariant_of-result
invariant_of-result c =
    let w = c.args.wiring.now.vif in
    let s = c.args.state.now in
    let packet = c.args.packet in
    let left = subst (λ (left : Steps Arrival). Arrives w left) (sym (c.begun-moving.ensures w))
    (arrives w c.args.wiring.now.accepts s packet.offload packet.bytes.now c.requires.wired) in
    record { left = subst (λ (v : Vif). Arrives v (rest_moving v s c.begun-moving.result)) (sym c.shared.ensures) left }
