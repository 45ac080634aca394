use Rattle.std.proofs.Common.{sym, ap}
use Rattle.std.specs.Prelude.{Option}
use Rattle.xen_steps.specs.Steps.{next}
use Rattle.xen_host.proofs.HostLedLemmas.{asked_from}
use Rattle.xen_turns.specs.Deliveries.{unless_halted}
use Rattle.xen_turns.specs.declared.turn.Halt.{Halt}
use Rattle.xen_host.specs.EngineAt.{engine_at}
use Rattle.xen_host.proofs.engine.Engine.start_delivery.Goals as goal

pub returns-in-Some : goal.returns-in-Some
returns-in-Some g c =
    let q = engine_at (g.W.Wires.wiring c.args.wires.now) (g.R.Room.held c.args.packet.now) c.args.self.now in
    let same = ap (λ (h : Option Halt). next (unless_halted q.wires.vif q.state q.work.offload q.work.packet h) c.args.producer) c.in-Some.is in
    record { led = asked_from _ _ _ _ _ _ _ _ _ (sym same) (c.end_delivery.ensures.led q.wires q.work.packet) }

pub returns-in-None : goal.returns-in-None
returns-in-None g c =
    let q = engine_at (g.W.Wires.wiring c.args.wires.now) (g.R.Room.held c.args.packet.now) c.args.self.now in
    let same = ap (λ (h : Option Halt). next (unless_halted q.wires.vif q.state q.work.offload q.work.packet h) c.args.producer) c.in-None.is in
    record { led = asked_from _ _ _ _ _ _ _ _ _ (sym same) c.found.ensures.led }
