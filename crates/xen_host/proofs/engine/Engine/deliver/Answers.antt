use Rattle.std.proofs.Common.{◌≡◌, ℕ, List, length, sym, ap, ◌∙◌, refl, subst, true, false}
use Rattle.xen_netif.specs.Offloads.{is_taken}
use Rattle.xen_netif.specs.declared.offload.Accepts.{Accepts}
use Rattle.xen_turns.specs.Delivered.{IsDeliverable, is_frame}
use Rattle.xen_host.specs.EngineAt.{engine_at, work_at}
use Rattle.xen_host.specs.Lent.{held_in}
use Rattle.xen_host.proofs.EngineLemmas.{rest_stands}
use Rattle.xen_host.proofs.LentLemmas.{at_some, lent_delivered, none_delivered, untaken}
use Rattle.xen_host.proofs.engine.Engine.deliver.Goals as goal

pub returns-then-not-can_be_delivered-clause-delivered : goal.returns-then-not-can_be_delivered-clause-delivered
returns-then-not-can_be_delivered-clause-delivered g c =
    let old = engine_at (g.W.Wires.wiring c.args.wires.now) (g.R.Room.held c.args.room.now) c.args.self.now in
    none_delivered g.B.Bus.log g.B.Bus.access_gives old (work_at c.args.packet.now c.args.self.now.work) c.args.offload c.args.packet.now c.args.bus.now c.args.counters.now c.requires.rests (sym c.can_be_delivered.ensures ∙ c.if-not-can_be_delivered.true)

pub returns-then-not-is_taken-clause-delivered : goal.returns-then-not-is_taken-clause-delivered
returns-then-not-is_taken-clause-delivered g c =
    let w = g.W.Wires.wiring c.args.wires.now in
    let p = c.args.packet.now in
    let old = engine_at w (g.R.Room.held c.args.room.now) c.args.self.now in
    let frame : is_frame p ≡ true = sym c.can_be_delivered.ensures ∙ c.if-not-can_be_delivered.false in
    let refused : is_taken w.accepts (length p) c.args.offload ≡ false = sym (c.is_taken.ensures ∙ ap (λ (a : Accepts). is_taken a (length p) c.args.offload) c.accepts.ensures) ∙ c.if-not-is_taken.true in
    untaken g.B.Bus.log g.B.Bus.access_gives old (work_at p c.args.self.now.work) c.args.offload p c.args.bus.now c.args.counters.now c.requires.rests frame refused

pub deliver_held-requires-clause-deliverable : goal.deliver_held-requires-clause-deliverable
deliver_held-requires-clause-deliverable g c =
    let w = g.W.Wires.wiring c.args.wires.now in
    let p = c.args.packet.now in
    let frame : is_frame p ≡ true = sym c.can_be_delivered.ensures ∙ c.if-not-can_be_delivered.false in
    let taken : is_taken w.accepts (length p) c.args.offload ≡ true = sym (c.is_taken.ensures ∙ ap (λ (a : Accepts). is_taken a (length p) c.args.offload) c.accepts.ensures) ∙ c.if-not-is_taken.false in
    subst (λ (l : List ℕ). IsDeliverable w.accepts c.args.offload l) (sym c.new-lent.ensures) (frame, taken)

pub deliver_held-requires-clause-stands : goal.deliver_held-requires-clause-stands
deliver_held-requires-clause-stands g c =
    let l = c.new-lent.result in
    let st = c.requires.stands in
    rest_stands (engine_at (g.W.Wires.wiring c.args.wires.now) (held_in l.lent (g.R.Room.held l.room.now)) c.args.self.now) c.requires.rests st.wired st.turns

pub returns-clause-stands : goal.returns-clause-stands
returns-clause-stands g c =
    let st = c.requires.stands in
    let d = c.deliver_held.ensures.delivered in
    let e = engine_at (g.W.Wires.wiring c.args.wires.now) _ c.deliver_held.new.self in
    rest_stands e (at_some e c.deliver_held.new.self.state d.rests) st.wired st.turns

pub returns-clause-delivered : goal.returns-clause-delivered
returns-clause-delivered g c =
    let w = g.W.Wires.wiring c.args.wires.now in
    let l = c.new-lent.result in
    let k = c.deliver_held in
    let old = engine_at w (g.R.Room.held c.args.room.now) c.args.self.now in
    let held = held_in l.lent (g.R.Room.held l.room.now) in
    let after = k.new.packet in
    lent_delivered g.B.Bus.log g.B.Bus.access_gives old (engine_at w (held_in after.lent (g.R.Room.held after.room.now)) k.new.self) (work_at held c.args.self.now.work) (work_at c.args.packet.now k.new.self.work) c.args.offload c.args.packet.now held k.result c.args.bus.now k.new.bus c.args.counters.now k.new.counters
    c.new-lent.ensures refl k.ensures.delivered
