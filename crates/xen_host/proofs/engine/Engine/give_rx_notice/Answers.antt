use Rattle.std.proofs.Common.{[], length, inl, refl, subst}
use Rattle.xen_steps.specs.Steps.{done}
use Rattle.xen_host.specs.Asks as ask
use Rattle.xen_host.specs.Led.{beside}
use Rattle.xen_host.proofs.HostLedLemmas.{asks_last}
use Rattle.xen_rx_fill.specs.Transmit.{outcome_of}
use Rattle.xen_host.specs.declared.stage.Fill.TheVariants as fill
use Rattle.xen_host.proofs.FillLemmas.{IsFillOn, fill_before, lift_fill}
use Rattle.xen_host.specs.EngineAt.{engine_at}
use Rattle.xen_host.specs.Rest.{rx_offload}
use Rattle.xen_host.proofs.engine.Engine.give_rx_notice.Goals as goal

pub returns-then-has_room-clause-led : goal.returns-then-has_room-clause-led
returns-then-has_room-clause-led g c =
    let q = engine_at (g.W.Wires.wiring c.args.wires.now) (g.R.Room.held c.args.packet.now) c.args.self.now in
    let left = done (outcome_of c.args.grants (length q.work.targets)) in
    fill_before _ _ c.args.purpose (beside q) _ left _ _ _ _ (ask.Notify q.wires.vif.port) [] (subst (λ p. g.H.Host.was_asked c.args.host.now (ask.Notify p) [] c.notify.new.self) c.port.ensures c.notify.ensures.asked) refl tt (left, (0, (refl, refl), refl), refl) c.replied.ensures.led

pub returns-else-has_room-clause-led : goal.returns-else-has_room-clause-led
returns-else-has_room-clause-led g c =
    let q = engine_at (g.W.Wires.wiring c.args.wires.now) (g.R.Room.held c.args.packet.now) c.args.self.now in
    let ts = q.work.targets in
    let f = fill.Notice c.args.grants in
    let left = done (outcome_of c.args.grants (length ts)) in
    lift_fill _ _ c.args.purpose q ts f _ _ _
    (asks_last _ _ (IsFillOn q ts (rx_offload c.args.purpose q.work.offload) f) _ _ left _ _ _ (ask.Notify q.wires.vif.port) [] (subst (λ p. g.H.Host.was_asked c.args.host.now (ask.Notify p) [] c.notify.new.self) c.port.ensures c.notify.ensures.asked) (inl (c.has_room.ensures.full c.if-has_room.false)) tt
    (left, (0, (refl, refl), refl), refl) (refl, tt, refl) refl tt)
