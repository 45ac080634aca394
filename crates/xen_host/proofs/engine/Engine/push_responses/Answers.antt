use Rattle.std.proofs.Common.{length, refl, ap, ◌∙◌}
use Rattle.xen_page.specs.declared.place.Place.{Place}
use Rattle.xen_steps.specs.Places.{add32, page_word}
use Rattle.xen_rx_fill.specs.Places.{tx_word}
use Rattle.xen_turns.specs.Tree.{read_event}
use Rattle.xen_host.specs.Asks as ask
use Rattle.xen_host.specs.Rest.{ended_at}
use Rattle.xen_host.proofs.HostLedLemmas.{asks_one}
use Rattle.xen_host.specs.EngineAt.{engine_at}
use Rattle.xen_host.proofs.engine.Engine.push_responses.Goals as goal

pub returns-clause-led : goal.returns-clause-led
returns-clause-led g c =
    λ packet.
    let q = engine_at (g.W.Wires.wiring c.args.wires.now) packet c.args.self.now in
    let w = q.wires in
    let t = q.state.tx_index in
    let v = add32 t (length q.work.chain) in
    let left = read_event w t v (ended_at q.state q.work) in
    let is = ap (λ k. ask.Push c.header.result (add32 t k) 3) c.len.ensures.len ∙ ap (λ (p : Place). ask.Push p v 3) (c.header.ensures ∙ ap (λ k. page_word k 2) c.tx.ensures) in
    asks_one _ _ _ _ _ left _ _ _ (ask.Push (tx_word w.vif 2) v 3) _ c.push.ensures is refl tt
    (left, (0, (refl, refl), refl), refl) (record { is_rest = refl; waits = (refl, (refl, λ x. tt)); is_here = refl; told = refl }) refl tt
