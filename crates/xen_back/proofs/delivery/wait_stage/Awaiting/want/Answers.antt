use Rattle.std.proofs.Common.{ap}
use Rattle.xen_back.specs.Waits.{rest_looking}
use Rattle.xen_back.specs.declared.delivery.wait_stage.Looking.{Looking}
use Rattle.xen_back.proofs.delivery.wait_stage.Awaiting.want.Goals as goal

pub returns-in-Over-clause-over : goal.returns-in-Over-clause-over
returns-in-Over-clause-over c = λ e.
    let a = c.args.self.now in
    ((c.in-Over.after, c.in-Over.awaited), ap (λ (l : Looking). rest_looking a.rx a.state a.wanted l) c.in-Over.is)
