use Rattle.std.proofs.Common.{ap, sym, ◌∙◌}
use Rattle.xen_steps.specs.Steps.{bind, next_by}
use Rattle.xen_turns.specs.Tree.{after_look, seen, unless_halted}
use Rattle.xen_back.proofs.by_event.looking.started.Goals as goal

pub returns-in-None : goal.returns-in-None
returns-in-None c w packet counter =
    let s = c.args.state.now in
    c.first_looked.ensures w packet
    ∙ ap (λ o. bind (seen w s.tx_index o) (after_look w s)) c.requests_shown.ensures
    ∙ sym (ap (λ h. next_by (unless_halted w s h) c.args.word counter) c.in-None.is)
