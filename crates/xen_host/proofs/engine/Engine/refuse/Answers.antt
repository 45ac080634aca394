use Rattle.std.proofs.Common.{ap}
use Rattle.xen_host.proofs.HostLedLemmas.{asked_from}
use Rattle.xen_netif.specs.declared.status.Status.TheVariants.{Error}
use Rattle.xen_turns.specs.Tree.{respond}
use Rattle.xen_turns.specs.Turned.{Refused}
use Rattle.xen_host.specs.EngineAt.{engine_at}
use Rattle.xen_host.proofs.engine.Engine.refuse.Goals as goal

pub returns-clause-led : goal.returns-clause-led
returns-clause-led g c =
    λ packet.
    let q = engine_at (g.W.Wires.wiring c.args.wires.now) packet c.args.self.now in
    let w = q.wires in
    asked_from _ _ _ _ _ _ _ _ _ (ap (λ k. respond w q.state q.work.chain Error (Refused c.args.cause 0 k)) c.len-slots.ensures.len) (c.respond.ensures.led q.work.packet)
