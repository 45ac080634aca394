use Rattle.std.proofs.Common.{subst}
use Rattle.xen_steps.specs.Steps.{Steps}
use Rattle.xen_turns.specs.Deliveries.{Arrival}
use Rattle.xdp_world.specs.Carries.{Lands}
use Rattle.xdp_world.proofs.carrying.begun.Goals as goal

pub returns-clause-lands : goal.returns-clause-lands
returns-clause-lands c =
    subst (λ (m : Steps Arrival). Lands c.args.queue.now m c.landed.new.queue c.landed.result.0 c.landed.result.1) c.begin_delivery-delivering.ensures.left c.landed.ensures.lands
