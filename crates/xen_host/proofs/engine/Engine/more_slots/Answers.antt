use Rattle.std.proofs.Common.{◌<◌, sym, ap, arith}
use Rattle.xen_steps.specs.Steps.{bind}
use Rattle.xen_host.proofs.HostLedLemmas.{asked_from}
use Rattle.xen_turns.specs.Tree.{after_scan, read_slots}
use Rattle.xen_turns.proofs.RestLemmas.{read_slots_more}
use Rattle.xen_host.specs.EngineAt.{engine_at}
use Rattle.xen_host.proofs.EarlyLemmas.{early_as, late_early}
use Rattle.xen_turns.specs.declared.state.State.{State}
use Rattle.xen_host.proofs.engine.Engine.more_slots.Goals as goal

pub returns-then-left-eq0-clause-led : goal.returns-then-left-eq0-clause-led
returns-then-left-eq0-clause-led g c =
    let q = engine_at (g.W.Wires.wiring c.args.wires.now) (g.R.Room.held c.args.packet.now) c.args.self.now in
    let w = q.wires in
    let same = ap (λ k. bind (read_slots w q.state.tx_index k q.work.chain) (after_scan w q.state)) c.if-left-eq0.true in
    asked_from _ _ _ _ _ _ _ _ _ (sym same) (c.halt.ensures.led q.wires)

pub returns-else-left-eq0-clause-led : goal.returns-else-left-eq0-clause-led
returns-else-left-eq0-clause-led g c =
    let q = engine_at (g.W.Wires.wiring c.args.wires.now) (g.R.Room.held c.args.packet.now) c.args.self.now in
    let w = q.wires in
    let some : 0 < c.args.left = omega (arith, c.if-left-eq0.false) in
    let same = ap (λ x. bind x (after_scan w q.state)) (read_slots_more w q.state c.args.left q.work.chain some) in
    asked_from _ _ _ _ _ _ _ _ _ same (c.read_slot.ensures.led q.work.packet)

pub returns-then-left-eq0-clause-early : goal.returns-then-left-eq0-clause-early
returns-then-left-eq0-clause-early g c = late_early _ _ _ c.halt.ensures.late

pub returns-else-left-eq0-clause-early : goal.returns-else-left-eq0-clause-early
returns-else-left-eq0-clause-early g c =
    let q = engine_at (g.W.Wires.wiring c.args.wires.now) (g.R.Room.held c.args.packet.now) c.args.self.now in
    let w = q.wires in
    let some : 0 < c.args.left = omega (arith, c.if-left-eq0.false) in
    early_as _ _ _ _ (λ (t : State). ap (λ x. bind x (after_scan w t)) (read_slots_more w t c.args.left q.work.chain some)) (c.read_slot.ensures.early q.work.packet)
