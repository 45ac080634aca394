use Rattle.std.proofs.Common.{◌≡◌, length, sym, ap, ◌∙◌, true, false}
use Rattle.xen_host.specs.Led.{beside}
use Rattle.xen_steps.specs.Places.{add32}
use Rattle.xen_rx_fill.specs.Transmit.{outcome_of, rx_notice}
use Rattle.xen_host.proofs.FillLemmas.{fill_same}
use Rattle.xen_ring.specs.Index.{is_due}
use Rattle.xen_host.specs.EngineAt.{engine_at}
use Rattle.xen_host.proofs.engine.Engine.after_reply_event.Goals as goal

pub returns-then-due-clause-led : goal.returns-then-due-clause-led
returns-then-due-clause-led g c =
    let q = engine_at (g.W.Wires.wiring c.args.wires.now) (g.R.Room.held c.args.packet.now) c.args.self.now in
    let w = q.wires.vif in
    let x = q.state.rx_index in
    let due : true ≡ is_due x (add32 x (length q.work.targets)) c.args.event = sym c.if-due.true ∙ c.due.ensures ∙ ap (λ k. is_due x (add32 x k) c.args.event) c.len.ensures.value in
    fill_same _ _ c.args.purpose (beside q) _ _ _ _ _ (ap (λ b. rx_notice w b (outcome_of c.args.grants (length q.work.targets))) due) c.give_rx_notice.ensures.led

pub returns-else-due-clause-led : goal.returns-else-due-clause-led
returns-else-due-clause-led g c =
    let q = engine_at (g.W.Wires.wiring c.args.wires.now) (g.R.Room.held c.args.packet.now) c.args.self.now in
    let w = q.wires.vif in
    let x = q.state.rx_index in
    let due : false ≡ is_due x (add32 x (length q.work.targets)) c.args.event = sym c.if-due.false ∙ c.due.ensures ∙ ap (λ k. is_due x (add32 x k) c.args.event) c.len.ensures.value in
    fill_same _ _ c.args.purpose (beside q) _ _ _ _ _ (ap (λ b. rx_notice w b (outcome_of c.args.grants (length q.work.targets))) due) c.replied.ensures.led
