use Rattle.std.proofs.Common.{◌≡◌, ℕ, suc, ◌-◌, List, [], sym, ap, ◌∙◌, arith}
use Rattle.std.specs.Prelude.{Option}
use Rattle.xen_steps.specs.Steps.{bind}
use Rattle.xen_host.specs.Led.{beside}
use Rattle.xen_rx_fill.specs.Transmit.{after_targets, read_targets}
use Rattle.xen_rx_fill.specs.declared.target.Target.{Target}
use Rattle.xen_host.proofs.FillLemmas.{fill_same}
use Rattle.xen_rx_fill.specs.Packets.{slots}
use Rattle.xen_rx_fill.specs.Transmit.{found}
use Rattle.xen_rx_fill.proofs.StraightLemmas.{found_enough}
use Rattle.xen_host.specs.EngineAt.{engine_at}
use Rattle.xen_host.specs.Rest.{rx_offload}
use Rattle.xen_host.proofs.engine.Engine.found.Goals as goal

pub returns-else-wanted-eq0-clause-led : goal.returns-else-wanted-eq0-clause-led
returns-else-wanted-eq0-clause-led g c =
    let q = engine_at (g.W.Wires.wiring c.args.wires.now) (g.R.Room.held c.args.packet.now) c.args.self.now in
    let w = q.wires.vif in
    let x = q.state.rx_index in
    let p = q.work.packet in
    let o = rx_offload c.args.purpose q.work.offload in
    let after = after_targets w x o p in
    let shown = ap (λ (m : Option ℕ). found w x o p m) (sym c.requests_shown.ensures ∙ c.in-Some.is) in
    let count : c.slots-wanted.result ≡ slots o p = c.slots-wanted.ensures.value ∙ ap (λ l. slots o l) c.bytes.ensures.same in
    let enough = found_enough w x o p c.in-Some.shown (omega (arith, count, c.if-shown-wanted.false)) in
    let one : slots o p ≡ suc (c.slots-wanted.result - 1) = omega (arith, count, c.if-wanted-eq0.false) in
    let all = ap (λ n. bind (read_targets w x o n []) after) one ∙ ap (λ (ts : List Target). bind (read_targets w x o (suc (c.slots-wanted.result - 1)) ts) after) (sym c.new-self.ensures) in
    fill_same _ _ c.args.purpose (beside q) _ _ _ _ _ (sym (shown ∙ enough ∙ all)) (c.read_post.ensures.led q.work.packet)
