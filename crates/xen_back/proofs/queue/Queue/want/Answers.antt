use Rattle.xen_steps.proofs.FinishLemmas.{some_run}
use Rattle.xen_back.specs.Queues.{rest, wiring_of}
use Rattle.xen_turns.specs.Within.{may_want}
use Rattle.xen_back.proofs.queue.Queue.want.Goals as goal

pub returns-clause-rests : goal.returns-clause-rests
returns-clause-rests c =
    let q = c.args.self.now in
    some_run (may_want (wiring_of q)) (rest q) q.left
