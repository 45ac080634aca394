use Rattle.std.proofs.Common.{sym, ap, subst}
use Rattle.xen_steps.specs.Steps.{done}
use Rattle.xen_host.specs.HostLed.{FillLeads}
use Rattle.xen_host.specs.Led.{beside}
use Rattle.xen_host.proofs.HostLedLemmas.{asked_from}
use Rattle.xen_turns.specs.Deliveries.{Arrival}
use Rattle.xen_host.specs.declared.stage.Purpose.{Purpose}
use Rattle.xen_host.specs.EngineAt.{engine_at}
use Rattle.xen_host.proofs.engine.Engine.filled.Goals as goal

pub returns-in-Back-clause-led : goal.returns-in-Back-clause-led
returns-in-Back-clause-led g c =
    let q = engine_at (g.W.Wires.wiring c.args.wires.now) (g.R.Room.held c.args.packet.now) c.args.self.now in
    subst (λ (p : Purpose). FillLeads g.H.Host.was_asked g.H.Host.is_full p (beside q) (done c.args.outcome) (engine_at q.wires (g.R.Room.held c.sent.new.packet) c.sent.new.self) c.args.host.now c.sent.new.host) (sym c.in-Back.is) c.sent.ensures.led

pub returns-in-Delivery-clause-led : goal.returns-in-Delivery-clause-led
returns-in-Delivery-clause-led g c =
    let q = engine_at (g.W.Wires.wiring c.args.wires.now) (g.R.Room.held c.args.packet.now) c.args.self.now in
    subst (λ (p : Purpose). FillLeads g.H.Host.was_asked g.H.Host.is_full p (beside q) (done c.args.outcome) (engine_at q.wires q.work.packet c.end_delivery.new.self) c.args.host.now c.end_delivery.new.host) (sym c.in-Delivery.is)
    (asked_from _ _ _ _ _ _ _ _ _ (ap (λ (x : Arrival). done x) (sym c.delivered-delivery.ensures.arrival)) (c.end_delivery.ensures.led q.wires q.work.packet))
