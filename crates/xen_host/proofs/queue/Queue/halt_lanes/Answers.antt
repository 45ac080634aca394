use Rattle.std.proofs.Common.{◌≡◌, suc, ◌≤◌, ◌+◌, ◌-◌, ◌++◌, ◌∷◌, [], ◌∙◌, ap, drop, length, map, sym, take, subst, arith}
use Rattle.xen_host.specs.Asks.{op_of}
use Rattle.xen_host.specs.Queues.{wiring}
use Rattle.xen_host.specs.Results.{several_op}
use Rattle.xen_host.specs.SeveralFits.{NumbersFit}
use Rattle.xen_host.specs.Severals.{push_of, result_in}
use Rattle.xen_host.specs.Wired.{wiring_of}
use Rattle.xen_host.specs.declared.op.HostOp.{HostOp}
use Rattle.xen_host.specs.declared.several.Phase.{Phase}
use Rattle.xen_host.specs.declared.several.Phase.TheVariants as phase
use Rattle.xen_host.specs.declared.several.Several.{Several}
use Rattle.xen_host.specs.declared.wires.OwnedWiring.{OwnedWiring}
use Rattle.xen_host.proofs.HaltTogetherLemmas.{halt_ends, halt_pushes, stages_still_are}
use Rattle.xen_host.proofs.TogetherLemmas.{under_way}
use Rattle.xen_host.proofs.queue.Queue.halt_lanes.Goals as goal

pub returns-then-held-eq0-clause-settled : goal.returns-then-held-eq0-clause-settled
returns-then-held-eq0-clause-settled c = λ g t.
    let q = c.args.self.now in
    let h = c.requires.halted in
    let e = c.end_lanes.ensures in
    let new = c.end_lanes.new.self in
    let ops = c.args.ops.now in
    let said = c.args.said in
    let numbers = subst (λ (p : Phase). NumbersFit p q.several) c.requires.phase q.side.numbers in
    let within : q.several.count ≤ length q.several.lanes = omega (arith, numbers.1) in
    let ended = c.end_at.ensures.ended h.lane h.there in
    halt_ends q new g t.group (under_way q g c.requires.phase t) within h ops _ said _ c.args.results.now _ c.if-held-eq0.true e.wires (e.several ∙ ended) e.stage (e.state ∙ ap (λ (v : Several). v.after) (sym e.several))
    (e.results ∙ ap (λ (v : Several). map result_in (take v.count v.lanes) ++ drop v.count c.args.results.now) (sym e.several)) (e.ops ∙ ap (λ (v : Several). (take said ops ++ several_op v.count ∷ []) ++ drop c.end_lanes.result ops) (sym e.several)) (omega (arith, e.counted))

pub returns-then-held-eq0-clause-stages : goal.returns-then-held-eq0-clause-stages
returns-then-held-eq0-clause-stages c =
    let h = c.requires.halted in
    ap (λ (v : Several). map (λ l. l.engine.stage) v.lanes) (c.end_lanes.ensures.several ∙ c.end_at.ensures.ended h.lane h.there) ∙ stages_still_are c.args.self.now.several.lanes c.args.self.now.several.held h.lane h.there

pub returns-else-held-eq0-clause-settled : goal.returns-else-held-eq0-clause-settled
returns-else-held-eq0-clause-settled c = λ g t.
    let q = c.args.self.now in
    let h = c.requires.halted in
    let e = c.push_all.ensures in
    let new = c.push_all.new.self in
    let ops = c.args.ops.now in
    let said = c.args.said in
    let numbers = subst (λ (p : Phase). NumbersFit p q.several) c.requires.phase q.side.numbers in
    let within : q.several.count ≤ length q.several.lanes = omega (arith, numbers.1) in
    let ended = c.end_at.ensures.ended h.lane h.there in
    let k = q.several.held - 1 in
    let some : q.several.held ≡ suc k = omega (arith, c.if-held-eq0.false) in
    let op_is = ap (λ (x : OwnedWiring). op_of (push_of (wiring_of x) c.end_at.new.self.after.tx_index)) (sym e.wires) ∙ ap (λ (v : Several). op_of (push_of (wiring new) v.after.tx_index)) (sym e.several) in
    halt_pushes q new g t.group (under_way q g c.requires.phase t) within h ops _ said _ c.args.results.now k some e.wires e.engine (e.several ∙ ap (λ (v : Several). record v { phase = phase.Push }) ended)
    (e.ops ∙ ap (λ (x : HostOp). take said ops ++ x ∷ drop (said + 1) ops) op_is) e.counted

pub returns-else-held-eq0-clause-stages : goal.returns-else-held-eq0-clause-stages
returns-else-held-eq0-clause-stages c =
    let h = c.requires.halted in
    ap (λ (v : Several). map (λ l. l.engine.stage) v.lanes) c.push_all.ensures.several ∙ ap (λ (v : Several). map (λ l. l.engine.stage) v.lanes) (c.end_at.ensures.ended h.lane h.there) ∙ stages_still_are c.args.self.now.several.lanes c.args.self.now.several.held h.lane h.there
