use Rattle.std.proofs.Common.{sym, subst}
use Rattle.xen_rx_fill.specs.Sending.{IsTransmit}
use Rattle.xen_rx_fill.specs.declared.by_event.phase.TransmitOutcome.{TransmitOutcome}
use Rattle.xen_turns.specs.Delivered.{IsDelivery, few, overflown, refused, sent}
use Rattle.xen_turns.specs.declared.delivery.delivering.Delivery.TheVariants as delivery
use Rattle.xen_turns.specs.declared.state.State.{State}
use Rattle.xen_turns.specs.declared.turn.Halt.TheVariants as halt
use Rattle.xen_turns.proofs.delivery.delivering.delivered.Goals as goal

pub returns-in-Overflow-clause-rows : goal.returns-in-Overflow-clause-rows
returns-in-Overflow-clause-rows c =
    let s = c.args.state.now in
    λ w g packet p frame none t.
    subst (λ (after : State). IsDelivery w s g packet p after (delivery.Halted halt.RxProducer)) (sym c.halted.ensures)
    (overflown p frame none (subst (λ (o : TransmitOutcome). IsTransmit w.vif s.rx_index g packet p o) c.in-Overflow.is t))

pub returns-in-TooFew-clause-rows : goal.returns-in-TooFew-clause-rows
returns-in-TooFew-clause-rows c =
    let s = c.args.state.now in
    λ w g packet p frame none t. few p frame none (subst (λ (o : TransmitOutcome). IsTransmit w.vif s.rx_index g packet p o) c.in-TooFew.is t)

pub returns-in-Refused-clause-rows : goal.returns-in-Refused-clause-rows
returns-in-Refused-clause-rows c =
    let s = c.args.state.now in
    let used = c.in-Refused.slots in
    λ w g packet p frame none t.
    subst (λ (after : State). IsDelivery w s g packet p after (delivery.Refused used)) (sym c.after_slots.ensures)
    (refused p used frame none (subst (λ (o : TransmitOutcome). IsTransmit w.vif s.rx_index g packet p o) c.in-Refused.is t))

pub returns-in-Sent-clause-rows : goal.returns-in-Sent-clause-rows
returns-in-Sent-clause-rows c =
    let s = c.args.state.now in
    let used = c.in-Sent.slots in
    λ w g packet p frame none t.
    subst (λ (after : State). IsDelivery w s g packet p after (delivery.Sent used)) (sym c.after_slots-in-Sent.ensures)
    (sent p used frame none (subst (λ (o : TransmitOutcome). IsTransmit w.vif s.rx_index g packet p o) c.in-Sent.is t))
