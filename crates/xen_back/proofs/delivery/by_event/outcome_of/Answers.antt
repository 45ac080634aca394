use Rattle.std.proofs.Common.{◌≡◌, ◌∙◌, subst}
use Rattle.xen_steps.specs.Steps.{want_of}
use Rattle.xen_steps.specs.declared.want.Want.TheVariants as want
use Rattle.xen_back.specs.Deliveries.{rest_moving}
use Rattle.xen_back.specs.declared.delivery.moving.Moving.{Moving}
use Rattle.xen_back.proofs.delivery.by_event.outcome_of.Goals as goal

pub unreachable-requires : goal.unreachable-requires
unreachable-requires c =
    let w = c.args.vif.now in
    let s = c.args.state.now in
    let over = subst (λ (m : Moving). want_of (rest_moving w s m) ≡ want.Done) c.in-Sending.is c.requires in
    c.sending_want-want.ensures.asks (c.sending_want-want.ensures.want ∙ over)
