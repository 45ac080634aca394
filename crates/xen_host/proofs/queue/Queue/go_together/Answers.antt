use Rattle.std.proofs.Common.{refl}
use Rattle.xdp_program.specs.Tallies.{Went}
use Rattle.xen_host.specs.Queues.{wired_to}
use Rattle.xen_host.proofs.SeveralLemmas.{none_also}
use Rattle.xen_host.proofs.queue.Queue.go_together.Goals as goal

pub returns-in-Push-clause-stepped : goal.returns-in-Push-clause-stepped
returns-in-Push-clause-stepped x c = λ g t. none_also (Went (x.T.Tallies.did (wired_to c.args.self.now).program.shapes) c.args.counters.now c.args.counters.now) refl (c.end_together.ensures.stepped g t)
