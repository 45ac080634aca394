use Rattle.std.proofs.Common.{arith}
use Rattle.xen_host.proofs.HostLemmas.{begun_of, within_all}
use Rattle.xen_host.proofs.queue.Queue.begin_ops.Goals as goal

pub returns-clause-begun : goal.returns-clause-begun
returns-clause-begun c = begun_of c.args.self.now _ c.args.producer _ c.turn_by.new.host c.requires.none c.requires.unlent c.turn_by.ensures

pub returns-clause-loan : goal.returns-clause-loan
returns-clause-loan c = (within_all _ _ c.turn_by.new.host (omega (arith, c.requires.none)) c.turn_by.ensures.asked).3
