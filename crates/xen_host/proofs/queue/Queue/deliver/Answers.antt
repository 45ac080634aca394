use Rattle.std.proofs.Common.{◌≡◌, ℕ, List, length, sym, ◌∙◌, subst, arith, true}
use Rattle.xen_netif.specs.Offloads.{is_taken}
use Rattle.xen_host.specs.EngineAt.{WorkAt, work_at}
use Rattle.xen_turns.specs.Delivered.{IsDeliverable}
use Rattle.xen_host.specs.Queues.{seen}
use Rattle.xen_host.proofs.EngineLemmas.{delivery_stands}
use Rattle.xen_host.proofs.QueueLemmas.{stands}
use Rattle.xen_host.proofs.queue.Queue.deliver.Goals as goal

pub invariant_of-self : goal.invariant_of-self
invariant_of-self c =
    let q = c.args.self.now in
    let b : WorkAt = record (work_at c.hold.new.room q.engine.work) { offload = c.args.offload } in
    let is : b.packet ≡ c.args.packet.now = c.hold.ensures in
    let taken : is_taken q.wires.accepts (length c.args.packet.now) c.args.offload ≡ true = sym c.is_taken.ensures ∙ c.if-not-is_taken.false in
    let d = subst (λ (l : List ℕ). IsDeliverable q.wires.accepts c.args.offload l) (sym is) (sym c.can_be_delivered.ensures ∙ c.if-not-can_be_delivered.false, taken) in
    let s = delivery_stands (seen q) (stands q) c.args.producer b (omega (arith, c.ranges.producer.fits)) d in
    record { fits = s.fits; wired = s.wired; turns = s.turns; seated = c.args.self.now.seated; apart = c.args.self.now.apart; side = c.args.self.now.side; left = s.left }
