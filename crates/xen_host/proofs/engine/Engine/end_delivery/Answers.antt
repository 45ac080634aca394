use Rattle.std.proofs.Common.{refl}
use Rattle.xen_steps.specs.Steps.{done}
use Rattle.xen_host.specs.Asks as ask
use Rattle.xen_host.proofs.HostLedLemmas.{asks_one}
use Rattle.xen_host.specs.EngineAt.{engine_at}
use Rattle.xen_host.proofs.engine.Engine.end_delivery.Goals as goal

pub returns-clause-led : goal.returns-clause-led
returns-clause-led g c =
    λ w packet.
    let q = engine_at w packet c.args.self.now in
    asks_one _ _ _ _ _ (done (c.args.after, c.args.delivery)) _ _ _ (ask.DeliveryOver c.args.delivery) _ c.delivered.ensures refl refl tt refl
    (refl, refl, refl) refl tt
