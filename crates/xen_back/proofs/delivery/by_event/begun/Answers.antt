use Rattle.std.proofs.Common.{ap, sym, ◌∙◌}
use Rattle.xen_turns.specs.Deliveries.{if_frame}
use Rattle.xen_back.proofs.delivery.by_event.begun.Goals as goal

pub returns-then-can_be_delivered : goal.returns-then-can_be_delivered
returns-then-can_be_delivered c v =
    let frame = sym c.can_be_delivered.ensures ∙ c.if-can_be_delivered.true in
    c.begun_frame.ensures v ∙ sym (ap (if_frame v c.args.accepts.now c.args.state.now c.args.packet.offload c.args.packet.bytes.now) frame)

pub returns-else-can_be_delivered : goal.returns-else-can_be_delivered
returns-else-can_be_delivered c v =
    let frame = sym c.can_be_delivered.ensures ∙ c.if-can_be_delivered.false in
    sym (ap (if_frame v c.args.accepts.now c.args.state.now c.args.packet.offload c.args.packet.bytes.now) frame)
