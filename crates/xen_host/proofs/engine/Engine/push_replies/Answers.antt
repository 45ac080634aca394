use Rattle.std.proofs.Common.{length, refl, ap, ◌∙◌}
use Rattle.xen_page.specs.declared.place.Place.{Place}
use Rattle.xen_steps.specs.Places.{add32, page_word}
use Rattle.xen_rx_fill.specs.Places.{rx_word}
use Rattle.xen_rx_fill.specs.Transmit.{rx_event}
use Rattle.xen_host.specs.Asks as ask
use Rattle.xen_host.specs.declared.stage.Fill.TheVariants as fill
use Rattle.xen_host.proofs.FillLemmas.{IsFillOn, lift_fill}
use Rattle.xen_host.proofs.HostLedLemmas.{asks_one}
use Rattle.xen_host.specs.EngineAt.{engine_at}
use Rattle.xen_host.specs.Rest.{rx_offload}
use Rattle.xen_host.proofs.engine.Engine.push_replies.Goals as goal

pub returns-clause-led : goal.returns-clause-led
returns-clause-led g c =
    λ packet.
    let q = engine_at (g.W.Wires.wiring c.args.wires.now) packet c.args.self.now in
    let w = q.wires.vif in
    let x = q.state.rx_index in
    let ts = q.work.targets in
    let v = add32 x (length ts) in
    let f = fill.Push c.args.grants in
    let left = rx_event w x c.args.grants (length ts) in
    let is = ap (λ k. ask.Push c.header.result (add32 x k) 3) c.len.ensures.value ∙ ap (λ (p : Place). ask.Push p v 3) (c.header.ensures ∙ ap (λ k. page_word k 2) c.rx.ensures) in
    lift_fill _ _ c.args.purpose q ts f _ _ _
    (asks_one _ _ (IsFillOn q ts (rx_offload c.args.purpose q.work.offload) f) _ _ left _ _ _ (ask.Push (rx_word w 2) v 3) _ c.push.ensures is refl tt
    (left, (0, (refl, refl), refl), refl) (refl, refl, (refl, (refl, λ a. tt))) refl tt)
