use Rattle.std.proofs.Common.{arith}
use Rattle.xen_host.proofs.HostLemmas.{step_within, stepped_of}
use Rattle.xen_host.proofs.queue.Queue.step_ops_at_seat.Goals as goal

pub returns-clause-words : goal.returns-clause-words
returns-clause-words c = (step_within _ _ c.args.self.now _ _ c.step_by_at_seat.new.host c.step_by_at_seat.ensures.stepped (omega (arith, c.requires.fresh.0))).2

pub returns-clause-stepped : goal.returns-clause-stepped
returns-clause-stepped c = stepped_of _ _ c.args.self.now _ _ c.step_by_at_seat.new.host c.step_by_at_seat.ensures.stepped c.requires.fresh.0

pub returns-clause-loan : goal.returns-clause-loan
returns-clause-loan c = (step_within _ _ c.args.self.now _ _ c.step_by_at_seat.new.host c.step_by_at_seat.ensures.stepped (omega (arith, c.requires.fresh.0))).3
