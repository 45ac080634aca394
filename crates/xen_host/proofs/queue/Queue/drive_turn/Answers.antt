use Rattle.xen_host.proofs.QueueLemmas.{stands}
use Rattle.xen_host.proofs.queue.Queue.drive_turn.Goals as goal

pub drive_turn-requires-clause-stands : goal.drive_turn-requires-clause-stands
drive_turn-requires-clause-stands g c = stands c.args.self.now

pub invariant_of-self : goal.invariant_of-self
invariant_of-self g c =
    let s = c.drive_turn.ensures.stands in
    record { fits = s.fits; wired = s.wired; turns = s.turns; seated = c.args.self.now.seated; apart = c.args.self.now.apart; side = c.args.self.now.side; left = s.left }
