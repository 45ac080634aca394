use Rattle.xen_host.proofs.QueueLemmas.{stands}
use Rattle.xen_host.proofs.queue.Queue.drive_wait.Goals as goal

pub await_slots-requires-clause-stands : goal.await_slots-requires-clause-stands
await_slots-requires-clause-stands g c = stands c.args.self.now

pub invariant_of-self : goal.invariant_of-self
invariant_of-self g c =
    let s = c.await_slots.ensures.stands in
    record { fits = s.fits; wired = s.wired; turns = s.turns; seated = c.args.self.now.seated; apart = c.args.self.now.apart; side = c.args.self.now.side; left = s.left }
