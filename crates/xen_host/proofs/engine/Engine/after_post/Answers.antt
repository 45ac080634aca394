use Rattle.std.proofs.Common.{◌≡◌, length, sym, ap, ◌∙◌, Bool, true, false}
use Rattle.xen_netif.specs.Slots.{rx_req_of}
use Rattle.xen_netif.specs.declared.rx.RxReq.{RxReq}
use Rattle.xen_steps.specs.Steps.{bind}
use Rattle.xen_rx_fill.specs.Packets.{takes_extra}
use Rattle.xen_rx_fill.specs.Transmit.{after_targets, read_targets, requested}
use Rattle.xen_host.specs.EngineAt.{engine_at}
use Rattle.xen_host.specs.Led.{beside}
use Rattle.xen_host.specs.Rest.{rx_offload}
use Rattle.xen_host.proofs.FillLemmas.{fill_same}
use Rattle.xen_host.proofs.engine.Engine.after_post.Goals as goal

pub returns-then-takes_extra-clause-led : goal.returns-then-takes_extra-clause-led
returns-then-takes_extra-clause-led g c =
    let q = engine_at (g.W.Wires.wiring c.args.wires.now) (g.R.Room.held c.args.packet.now) c.args.self.now in
    let w = q.wires.vif in
    let x = q.state.rx_index in
    let ts = q.work.targets in
    let o = rx_offload c.args.purpose q.work.offload in
    let go = read_targets w x o c.args.left in
    let after = after_targets w x o q.work.packet in
    let told = c.takes_extra.ensures ∙ ap (λ k. takes_extra o k) c.len.ensures.value in
    let some : takes_extra o (length ts) ≡ true = sym told ∙ c.if-takes_extra.true in
    let same = ap (λ (b : Bool). bind (requested w b ts go (rx_req_of c.args.slot)) after) some ∙ ap (λ (y : RxReq). bind (requested w true ts go y) after) (sym c.of_words-request.ensures.fields) in
    fill_same _ _ c.args.purpose (beside q) _ _ _ _ _ (sym same) c.take_extra.ensures.led

pub returns-clause-led : goal.returns-clause-led
returns-clause-led g c =
    let q = engine_at (g.W.Wires.wiring c.args.wires.now) (g.R.Room.held c.args.packet.now) c.args.self.now in
    let w = q.wires.vif in
    let x = q.state.rx_index in
    let ts = q.work.targets in
    let o = rx_offload c.args.purpose q.work.offload in
    let go = read_targets w x o c.args.left in
    let after = after_targets w x o q.work.packet in
    let told = c.takes_extra.ensures ∙ ap (λ k. takes_extra o k) c.len.ensures.value in
    let none : takes_extra o (length ts) ≡ false = sym told ∙ c.if-takes_extra.false in
    let same = ap (λ (b : Bool). bind (requested w b ts go (rx_req_of c.args.slot)) after) none ∙ ap (λ (y : RxReq). bind (requested w false ts go y) after) (sym c.of_words-request.ensures.fields) in
    fill_same _ _ c.args.purpose (beside q) _ _ _ _ _ (sym same) c.read_grant.ensures.led
