use Rattle.std.proofs.Common.{◌≡◌, suc, ◌-◌, ◌++◌, List, [], ◌∷◌, sym, ap, ◌∙◌, arith}
use Rattle.xen_steps.specs.Steps.{bind}
use Rattle.xen_rx_fill.specs.Transmit.{after_targets, read_targets}
use Rattle.xen_rx_fill.specs.declared.target.Target.{Target}
use Rattle.xen_host.specs.EngineAt.{engine_at}
use Rattle.xen_host.specs.Led.{beside}
use Rattle.xen_host.specs.Rest.{rx_offload}
use Rattle.xen_host.proofs.FillLemmas.{fill_same}
use Rattle.xen_host.proofs.engine.Engine.passed.Goals as goal

pub returns-else-left-eq0-clause-led : goal.returns-else-left-eq0-clause-led
returns-else-left-eq0-clause-led g c =
    let q = engine_at (g.W.Wires.wiring c.args.wires.now) (g.R.Room.held c.args.packet.now) c.args.self.now in
    let w = q.wires.vif in
    let x = q.state.rx_index in
    let n = c.args.left in
    let o = rx_offload c.args.purpose q.work.offload in
    let after = after_targets w x o q.work.packet in
    let one : n ≡ suc (n - 1) = omega (arith, c.if-left-eq0.false) in
    let ts = q.work.targets ++ c.args.target ∷ [] in
    let more = ap (λ k. bind (read_targets w x o k ts) after) one ∙ ap (λ (l : List Target). bind (read_targets w x o (suc (n - 1)) l) after) (sym c.push.ensures) in
    fill_same _ _ c.args.purpose (beside q) _ _ _ _ _ (sym more) (c.read_post.ensures.led q.work.packet)
