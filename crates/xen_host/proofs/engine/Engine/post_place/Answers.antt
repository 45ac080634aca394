use Rattle.std.proofs.Common.{ap, ◌∙◌}
use Rattle.xen_steps.specs.Places.{add32, rx_entry}
use Rattle.xen_rx_fill.specs.Places.{rx_slot}
use Rattle.xen_host.proofs.engine.Engine.post_place.Goals as goal

pub returns : goal.returns
returns g c =
    let w = (g.W.Wires.wiring c.args.wires.now).vif in
    let x = c.args.self.now.state.rx_index in
    c.rx_entry.ensures ∙ ap (λ k. rx_entry k (add32 x c.len.result) 0) c.rx.ensures ∙ ap (λ k. rx_slot w (add32 x k) 0) c.len.ensures.value
