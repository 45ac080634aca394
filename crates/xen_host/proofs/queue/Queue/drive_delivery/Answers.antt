use Rattle.std.proofs.Common.{ℕ, List, sym, ◌∙◌, subst}
use Rattle.xen_turns.specs.Delivered.{IsDeliverable}
use Rattle.xen_host.specs.EngineAt.{WorkAt, engine_at, work_at}
use Rattle.xen_host.specs.Queues.{seen, wiring}
use Rattle.xen_host.proofs.EngineLemmas.{rest_stands}
use Rattle.xen_host.proofs.LentLemmas.{delivered_packet, lent_delivered, none_delivered, untaken}
use Rattle.xen_host.proofs.QueueLemmas.{stands}
use Rattle.xen_host.proofs.queue.Queue.drive_delivery.Goals as goal

pub returns-then-not-can_be_delivered-clause-delivered : goal.returns-then-not-can_be_delivered-clause-delivered
returns-then-not-can_be_delivered-clause-delivered g c =
    let old = seen c.args.self.now in
    none_delivered g.B.Bus.log g.B.Bus.access_gives old old.work c.args.offload c.args.packet.now c.args.bus.now c.args.counters.now c.requires.rests (sym c.can_be_delivered.ensures ∙ c.if-not-can_be_delivered.true)

pub returns-then-not-is_taken-clause-delivered : goal.returns-then-not-is_taken-clause-delivered
returns-then-not-is_taken-clause-delivered g c =
    let old = seen c.args.self.now in
    let frame = sym c.can_be_delivered.ensures ∙ c.if-not-can_be_delivered.false in
    untaken g.B.Bus.log g.B.Bus.access_gives old old.work c.args.offload c.args.packet.now c.args.bus.now c.args.counters.now c.requires.rests frame (sym c.is_taken.ensures ∙ c.if-not-is_taken.true)

pub deliver_held-requires-clause-deliverable : goal.deliver_held-requires-clause-deliverable
deliver_held-requires-clause-deliverable g c =
    subst (λ (l : List ℕ). IsDeliverable c.args.self.now.wires.accepts c.args.offload l) (sym c.hold.ensures) (sym c.can_be_delivered.ensures ∙ c.if-not-can_be_delivered.false, sym c.is_taken.ensures ∙ c.if-not-is_taken.false)

pub deliver_held-requires-clause-stands : goal.deliver_held-requires-clause-stands
deliver_held-requires-clause-stands g c =
    let q = c.args.self.now in
    let st = stands q in
    rest_stands (engine_at (wiring q) c.hold.new.room q.engine) c.requires.rests st.wired st.turns

pub invariant_of-self : goal.invariant_of-self
invariant_of-self g c =
    let s = c.deliver_held.ensures.stands in
    record { fits = s.fits; wired = s.wired; turns = s.turns; seated = c.args.self.now.seated; apart = c.args.self.now.apart; side = c.args.self.now.side; left = s.left }

pub returns-clause-delivered : goal.returns-clause-delivered
returns-clause-delivered g c =
    let log = g.B.Bus.log in
    let gives = g.B.Bus.access_gives in
    let q = c.args.self.now in
    let k = c.deliver_held in
    let held = c.hold.new.room in
    let lent : WorkAt = work_at held q.engine.work in
    let old = engine_at (wiring q) held q.engine in
    let new = engine_at (wiring q) k.new.packet k.new.self in
    let deliverable = subst (λ (l : List ℕ). IsDeliverable q.wires.accepts c.args.offload l) (sym c.hold.ensures) (sym c.can_be_delivered.ensures ∙ c.if-not-can_be_delivered.false, sym c.is_taken.ensures ∙ c.if-not-is_taken.false) in
    let there = delivered_packet log gives old new c.args.offload held k.result c.args.bus.now k.new.bus c.args.counters.now k.new.counters deliverable k.ensures.delivered ∙ c.hold.ensures in
    lent_delivered log gives (seen q) new lent new.work c.args.offload c.args.packet.now held k.result c.args.bus.now k.new.bus c.args.counters.now k.new.counters c.hold.ensures there k.ensures.delivered
