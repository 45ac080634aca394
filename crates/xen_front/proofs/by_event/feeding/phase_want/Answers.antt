use Rattle.std.proofs.Common.{ap, sym, ◌∙◌}
use Rattle.xen_steps.specs.Steps.{want_of}
use Rattle.xen_front.specs.Rest.{rest_at}
use Rattle.xen_front.specs.declared.by_event.phase.Phase.{Phase}
use Rattle.xen_front.proofs.by_event.feeding.phase_want.Goals as goal

-- What a post wants says nothing of the state, so each answer names it.
pub returns-in-PostFrame : goal.returns-in-PostFrame
returns-in-PostFrame c = λ q.
    c.post_frame.ensures c.args.state.now c.in-PostFrame.start
    ∙ ap (λ (x : Phase). want_of (rest_at c.args.wiring.now c.args.state.now c.args.sent.now q x)) (sym c.in-PostFrame.is)

pub returns-in-PostFlags : goal.returns-in-PostFlags
returns-in-PostFlags c = λ q.
    c.post_flags.ensures c.args.state.now c.in-PostFlags.start
    ∙ ap (λ (x : Phase). want_of (rest_at c.args.wiring.now c.args.state.now c.args.sent.now q x)) (sym c.in-PostFlags.is)

pub returns-in-PostFirst : goal.returns-in-PostFirst
returns-in-PostFirst c = λ q.
    c.post_first.ensures c.args.state.now
    ∙ ap (λ (x : Phase). want_of (rest_at c.args.wiring.now c.args.state.now c.args.sent.now q x)) (sym c.in-PostFirst.is)

pub returns-in-PostSecond : goal.returns-in-PostSecond
returns-in-PostSecond c = λ q.
    c.post_second.ensures c.args.state.now
    ∙ ap (λ (x : Phase). want_of (rest_at c.args.wiring.now c.args.state.now c.args.sent.now q x)) (sym c.in-PostSecond.is)
