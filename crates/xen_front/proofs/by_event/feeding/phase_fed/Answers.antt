use Rattle.std.proofs.Common.{ap, sym, ◌∙◌}
use Rattle.xen_steps.specs.Steps.{bind, next_by}
use Rattle.xen_front.specs.Rest.{rest_at}
use Rattle.xen_front.specs.Tree.{after_tx_look, seen}
use Rattle.xen_front.specs.declared.by_event.phase.Phase.{Phase}
use Rattle.xen_front.proofs.by_event.feeding.phase_fed.Goals as goal

pub returns-in-TxLook-clause-rest : goal.returns-in-TxLook-clause-rest
returns-in-TxLook-clause-rest c = λ counter.
    let w = c.args.wiring.now in
    let s = c.args.state.now in
    let p = c.args.sent.now in
    let q = c.args.received.now in
    c.tx_first_looked.ensures.rest w p q
    ∙ ap (λ n. bind (seen w.tx_frame s.tx n) (after_tx_look w s)) c.shown-shown.ensures
    ∙ ap (λ (x : Phase). next_by (rest_at w s p q x) c.args.word counter) (sym c.in-TxLook.is)
