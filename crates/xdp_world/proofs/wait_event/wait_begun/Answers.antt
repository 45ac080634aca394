use Rattle.std.proofs.Common.{subst}
use Rattle.xen_steps.specs.Steps.{Steps}
use Rattle.xen_turns.specs.Waits.{Wait}
use Rattle.xdp_world.specs.Carries.{Resumes}
use Rattle.xdp_world.proofs.wait_event.wait_begun.Goals as goal

pub returns-clause-resumes : goal.returns-clause-resumes
returns-clause-resumes c =
    subst (λ (m : Steps Wait). Resumes c.args.queue.now m c.resumed.new.queue c.resumed.result.0 c.resumed.result.1) c.begin_wait-awaiting.ensures.left c.resumed.ensures.resumes
