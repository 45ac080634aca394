use Rattle.xen_host.specs.Queues.{seen}
use Rattle.xen_host.proofs.EngineLemmas.{wait_stands}
use Rattle.xen_host.proofs.QueueLemmas.{stands}
use Rattle.xen_host.proofs.queue.Queue.await_slots.Goals as goal

pub invariant_of-self : goal.invariant_of-self
invariant_of-self c =
    let s = wait_stands (seen c.args.self.now) (stands c.args.self.now) c.args.pages in
    record { fits = s.fits; wired = s.wired; turns = s.turns; seated = c.args.self.now.seated; apart = c.args.self.now.apart; side = c.args.self.now.side; left = s.left }
