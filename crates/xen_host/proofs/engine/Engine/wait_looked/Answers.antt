use Rattle.std.proofs.Common.{ℕ, ap, ◌∙◌}
use Rattle.std.specs.Prelude.{Option}
use Rattle.xen_steps.specs.Steps.{done}
use Rattle.xen_host.proofs.HostLedLemmas.{asked_from}
use Rattle.xen_turns.specs.Waits.{Wait, wait_end}
use Rattle.xen_host.specs.EngineAt.{engine_at}
use Rattle.xen_host.proofs.engine.Engine.wait_looked.Goals as goal

pub returns : goal.returns
returns g c =
    record {
      led = λ w packet.
          let q = engine_at w packet c.args.self.now in
          let same = c.wait_answer-awaited.ensures ∙ ap (λ (o : Option ℕ). wait_end q.state c.args.pages o) c.requests_shown.ensures in
          asked_from _ _ _ _ _ _ _ _ _ (ap (λ (x : Wait). done x) same) (c.end_wait.ensures.led q.wires q.work.packet);
    }
