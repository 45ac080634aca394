use Rattle.std.proofs.Common.{List, ℕ, IsTrue, ap, subst, ◌∙◌}
use Rattle.xen_steps.specs.Steps.{asks, want_of}
use Rattle.xen_steps.proofs.BindLemmas.{want_bind}
use Rattle.xen_netif.specs.declared.offload.RxOffload.{RxOffload}
use Rattle.xen_netif.specs.declared.offload.RxOffload.TheVariants.{Whole}
use Rattle.xen_rx_fill.specs.Rest.{rest_of}
use Rattle.xen_turns.specs.Tree.{after_transmit}
use Rattle.xen_back.proofs.by_event.sent.sent_want.Goals as goal

pub returns : goal.returns
returns c =
    let w = c.args.wiring.now in
    let s = c.args.state.now in
    let t = c.args.sent.now in
    let packet = c.args.packet.now in
    let phase = t.transmit.phase in
    let sent = c.whole.result in
    let asked = subst (λ (o : RxOffload). IsTrue (asks (rest_of w.vif s.rx_index o sent.bytes.now phase))) c.whole.ensures.offload c.want.ensures.asks in
    c.want.ensures.want
    ∙ ap (λ (o : RxOffload). want_of (rest_of w.vif s.rx_index o sent.bytes.now phase)) c.whole.ensures.offload
    ∙ ap (λ (b : List ℕ). want_of (rest_of w.vif s.rx_index Whole b phase)) c.whole.ensures.same
    ∙ want_bind (rest_of w.vif s.rx_index Whole packet phase) (after_transmit w s t.chain packet t.ops)
    (subst (λ (b : List ℕ). IsTrue (asks (rest_of w.vif s.rx_index Whole b phase))) c.whole.ensures.same asked)
