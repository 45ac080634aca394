use Rattle.std.proofs.Common.{length, refl, ap, arith}
use Rattle.xen_steps.specs.Steps.{bind}
use Rattle.xen_host.specs.Asks as ask
use Rattle.xen_host.proofs.HostLedLemmas.{asks_one}
use Rattle.xen_page.specs.declared.place.Place.{Place}
use Rattle.xen_steps.specs.Places.{add32}
use Rattle.xen_rx_fill.specs.Places.{rx_slot}
use Rattle.xen_rx_fill.specs.Packets.{takes_extra}
use Rattle.xen_rx_fill.specs.Transmit.{after_targets, posted, read_targets, requested}
use Rattle.xen_host.specs.declared.stage.Fill.TheVariants as fill
use Rattle.xen_host.proofs.AskLemmas.{asks_post}
use Rattle.xen_host.proofs.FillLemmas.{IsFillOn, lift_fill}
use Rattle.xen_host.specs.EngineAt.{engine_at}
use Rattle.xen_host.specs.Rest.{rx_offload}
use Rattle.xen_host.proofs.engine.Engine.read_post.Goals as goal

pub returns-clause-led : goal.returns-clause-led
returns-clause-led g c =
    λ packet.
    let q = engine_at (g.W.Wires.wiring c.args.wires.now) packet c.args.self.now in
    let w = q.wires.vif in
    let x = q.state.rx_index in
    let ts = q.work.targets in
    let i = add32 x (length ts) in
    let o = rx_offload c.args.purpose q.work.offload in
    let f = fill.Slot c.args.left in
    let rest = requested w (takes_extra o (length ts)) ts (read_targets w x o c.args.left) in
    let left = bind (posted w i rest) (after_targets w x o q.work.packet) in
    lift_fill _ _ c.args.purpose q ts f left _ _
    (asks_one _ _ (IsFillOn q ts o f) _ _ left _ _ _ (ask.Read (rx_slot w i 0) 2) _ c.read.ensures (ap (λ (p : Place). ask.Read p 2) c.post_place.ensures) refl (omega arith, omega arith) refl
    (refl, tt, (refl, asks_post w i rest (after_targets w x o q.work.packet))) refl c.requires.few)
