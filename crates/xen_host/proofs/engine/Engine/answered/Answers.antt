use Rattle.std.proofs.Common.{ap, ◌∙◌}
use Rattle.xen_steps.specs.Steps.{done}
use Rattle.xen_turns.specs.declared.state.State.{State}
use Rattle.xen_host.proofs.HostLedLemmas.{asked_from}
use Rattle.xen_turns.specs.Tree.{answered}
use Rattle.xen_turns.specs.Turned.{turned}
use Rattle.xen_host.specs.EngineAt.{engine_at}
use Rattle.xen_host.proofs.engine.Engine.answered.Goals as goal

pub returns : goal.returns
returns g c =
    record {
      led = λ w.
          let q = engine_at w (g.R.Room.held c.args.packet.now) c.args.self.now in
          let after = c.after_answers-self.ensures ∙ ap (λ k. answered q.state k) c.len.ensures.len in
          asked_from _ _ _ _ _ _ _ _ _ (ap (λ (s : State). done (s, turned q.work.answer.kind q.work.packet)) after) (c.end.ensures.led q.wires);
    }
