use Rattle.std.proofs.Common.{ap, ◌∙◌}
use Rattle.xen_steps.specs.Places.{add32, tx_entry}
use Rattle.xen_rx_fill.specs.Places.{tx_slot}
use Rattle.xen_host.proofs.engine.Engine.slot_place.Goals as goal

pub returns : goal.returns
returns g c =
    let w = (g.W.Wires.wiring c.args.wires.now).vif in
    let t = c.args.self.now.state.tx_index in
    c.tx_entry.ensures ∙ ap (λ k. tx_entry k (add32 t c.len.result) 0) c.tx.ensures ∙ ap (λ k. tx_slot w (add32 t k) 0) c.len.ensures.len
