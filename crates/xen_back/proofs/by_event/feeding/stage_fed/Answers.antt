use Rattle.std.proofs.Common.{ap, sym, ◌∙◌}
use Rattle.xen_steps.specs.Steps.{next_by}
use Rattle.xen_back.specs.Rest.{rest_in}
use Rattle.xen_back.specs.declared.by_event.stage.Stage.{Stage}
use Rattle.xen_back.proofs.by_event.feeding.stage_fed.Goals as goal

pub returns-in-Send : goal.returns-in-Send
returns-in-Send c =
    let w = c.args.wiring.now in
    let s = c.args.state.now in
    c.sent_fed.ensures c.args.counter
    ∙ sym (ap (λ (g : Stage). next_by (rest_in w s g) c.args.word c.args.counter) c.in-Send.is)
