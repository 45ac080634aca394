use Rattle.std.proofs.Common.{◌≡◌, List, ℕ, IsTrue, ap, subst, ◌∙◌}
use Rattle.xen_netif.specs.declared.offload.RxOffload.{RxOffload}
use Rattle.xen_netif.specs.declared.offload.RxOffload.TheVariants.{Whole}
use Rattle.xen_steps.specs.Steps.{asks, bind, next_by}
use Rattle.xen_steps.proofs.BindLemmas.{next_bind}
use Rattle.xen_rx_fill.specs.Rest.{rest_after, rest_of}
use Rattle.xen_turns.specs.Tree.{after_transmit}
use Rattle.xen_back.proofs.by_event.sent.sent_fed.Goals as goal

-- what holds of a packet that leaves nothing holds of its bytes
of_whole : (P : RxOffload → List ℕ → Type 0) (o : RxOffload) (a b : List ℕ) → o ≡ Whole → a ≡ b → P o a → P Whole b
of_whole P o a b whole same h = subst (λ (x : List ℕ). P Whole x) same (subst (λ (x : RxOffload). P x a) whole h)

pub returns : goal.returns
returns c counter =
    let w = c.args.wiring.now in
    let s = c.args.state.now in
    let t = c.args.sent in
    let packet = c.args.packet in
    let phase = t.transmit.phase in
    let later = after_transmit w s t.chain packet t.ops in
    let f = c.feed-progress.ensures in
    let p = c.whole in
    let on = of_whole (λ o b. rest_after w.vif s.rx_index o b c.feed-progress.result ≡ next_by (rest_of w.vif s.rx_index o b phase) c.args.word counter)
    p.result.offload p.result.bytes.now packet p.ensures.offload p.ensures.same (f.rest counter) in
    let asked = of_whole (λ o b. IsTrue (asks (rest_of w.vif s.rx_index o b phase))) p.result.offload p.result.bytes.now packet p.ensures.offload p.ensures.same f.asked in
    c.progressed.ensures w ∙ ap (λ o. bind o later) on ∙ next_bind (rest_of w.vif s.rx_index Whole packet phase) later c.args.word counter asked
