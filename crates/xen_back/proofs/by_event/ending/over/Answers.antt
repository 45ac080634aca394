use Rattle.std.proofs.Common.{List, ℕ, ◌∙◌, ap}
use Rattle.xen_turns.specs.Turned.{turned}
use Rattle.xen_steps.specs.Steps.{done}
use Rattle.xen_back.specs.declared.by_event.phase.Phase.TheVariants as phases
use Rattle.xen_back.proofs.StageLemmas.{packet_at_phase}
use Rattle.xen_back.specs.Rest.{at_phase}
use Rattle.xen_back.specs.declared.by_event.stage.Stage.{Stage}
use Rattle.xen_back.proofs.by_event.ending.over.Goals as goal

pub returns-clause-over : goal.returns-clause-over
returns-clause-over c w =
    let e = c.ended-end.result in
    c.ended-end.ensures.over w ∙ ap (λ (p : List ℕ). done (e.0, turned e.1 p)) (packet_at_phase c.args.stage.now phases.Ready c.set_phase.new.stage c.set_phase.ensures)

pub returns-clause-ready : goal.returns-clause-ready
returns-clause-ready c =
    let at = c.ended-end.ensures.at in
    (at.0, c.set_phase.ensures ∙ ap (λ (q : Stage). at_phase q phases.Ready) at.2)
