use Rattle.std.proofs.Common.{ap}
use Rattle.xen_steps.specs.Steps.{done}
use Rattle.xen_turns.specs.declared.state.State.{State}
use Rattle.xen_host.proofs.HostLedLemmas.{asked_from}
use Rattle.xen_turns.specs.Turned.{Halted}
use Rattle.xen_host.proofs.engine.Engine.halt.Goals as goal

pub returns-clause-led : goal.returns-clause-led
returns-clause-led g c = λ w. asked_from _ _ _ _ _ _ _ _ _ (ap (λ (s : State). done (s, Halted c.args.cause)) c.halted-self.ensures) (c.end.ensures.led w)
