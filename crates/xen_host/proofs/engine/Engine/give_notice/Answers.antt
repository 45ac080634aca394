use Rattle.std.proofs.Common.{[], inl, refl, subst}
use Rattle.xen_steps.specs.Steps.{done}
use Rattle.xen_host.specs.Asks as ask
use Rattle.xen_host.proofs.HostLedLemmas.{asks_before, asks_last}
use Rattle.xen_host.specs.Rest.{ended_at}
use Rattle.xen_host.specs.EngineAt.{engine_at}
use Rattle.xen_host.proofs.engine.Engine.give_notice.Goals as goal

pub returns-then-has_room : goal.returns-then-has_room
returns-then-has_room g c =
    let q = engine_at (g.W.Wires.wiring c.args.wires.now) (g.R.Room.held c.args.packet.now) c.args.self.now in
    let left = done (ended_at q.state q.work) in
    record { led = asks_before _ _ _ _ _ left _ _ _ _ (ask.Notify q.wires.vif.port) [] (subst (λ p. g.H.Host.was_asked c.args.host.now (ask.Notify p) [] c.notify.new.self) c.port.ensures c.notify.ensures.asked) refl tt (left, (0, (refl, refl), refl), refl) (c.answered.ensures.led q.wires) }

pub returns-else-has_room : goal.returns-else-has_room
returns-else-has_room g c =
    let q = engine_at (g.W.Wires.wiring c.args.wires.now) (g.R.Room.held c.args.packet.now) c.args.self.now in
    let left = done (ended_at q.state q.work) in
    record {
      led = asks_last _ _ _ _ _ left _ _ _ (ask.Notify q.wires.vif.port) [] (subst (λ p. g.H.Host.was_asked c.args.host.now (ask.Notify p) [] c.notify.new.self) c.port.ensures c.notify.ensures.asked) (inl (c.has_room.ensures.full c.if-has_room.false)) tt
          (left, (0, (refl, refl), refl), refl) (record { is_rest = refl; waits = refl; is_here = refl; told = tt }) refl tt;
    }
