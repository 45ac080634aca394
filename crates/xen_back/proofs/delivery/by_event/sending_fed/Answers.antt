use Rattle.std.proofs.Common.{ap, sym, ◌∙◌}
use Rattle.xen_steps.specs.Steps.{bind, done}
use Rattle.xen_steps.proofs.BindLemmas.{next_bind}
use Rattle.xen_rx_fill.specs.Rest.{rest_after, rest_of}
use Rattle.xen_rx_fill.specs.declared.transmit.Progress.{Progress}
use Rattle.xen_turns.specs.Deliveries.{arrived}
use Rattle.xen_back.proofs.delivery.by_event.sending_fed.Goals as goal

pub returns-in-On : goal.returns-in-On
returns-in-On c =
    let w = c.args.vif.now in
    let s = c.args.state.now in
    let t = c.args.sending in
    let start = rest_of w s.rx_index t.packet.offload t.packet.bytes.now t.transmit.phase in
    λ counter.
    ap (λ (o : Progress). bind (rest_after w s.rx_index t.packet.offload t.packet.bytes.now o) (arrived s)) (sym c.in-On.is)
    ∙ ap (λ o. bind o (arrived s)) (c.feed.ensures.rest counter)
    ∙ next_bind start (arrived s) c.args.word counter c.feed.ensures.asked

pub returns-in-Over : goal.returns-in-Over
returns-in-Over c =
    let w = c.args.vif.now in
    let s = c.args.state.now in
    let t = c.args.sending in
    let start = rest_of w s.rx_index t.packet.offload t.packet.bytes.now t.transmit.phase in
    λ counter.
    ap done (sym c.delivered-delivery.ensures.arrival)
    ∙ ap (λ (o : Progress). bind (rest_after w s.rx_index t.packet.offload t.packet.bytes.now o) (arrived s)) (sym c.in-Over.is)
    ∙ ap (λ o. bind o (arrived s)) (c.feed.ensures.rest counter)
    ∙ next_bind start (arrived s) c.args.word counter c.feed.ensures.asked
