use Rattle.std.proofs.Common.{refl}
use Rattle.xdp_program.specs.Ran.{IsHistory}
use Rattle.xen_host.specs.Queues.{wired_to}
use Rattle.xen_host.proofs.SeveralLemmas.{none_also}
use Rattle.xen_host.proofs.queue.Queue.after_push.Goals as goal

pub returns-clause-stepped : goal.returns-clause-stepped
returns-clause-stepped c = λ enough g t. none_also (λ labels. IsHistory (wired_to c.args.self.now).program.shapes labels c.args.counters.now c.args.counters.now) refl (c.end_together.ensures.stepped g t)
