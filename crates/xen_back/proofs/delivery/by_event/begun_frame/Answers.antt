use Rattle.std.proofs.Common.{ap, sym, ◌∙◌}
use Rattle.xen_turns.specs.Deliveries.{if_taken}
use Rattle.xen_back.proofs.delivery.by_event.begun_frame.Goals as goal

pub returns-then-is_taken : goal.returns-then-is_taken
returns-then-is_taken c v =
    let taken = sym c.is_taken.ensures ∙ c.if-is_taken.true in
    c.begun_accepted.ensures v ∙ sym (ap (if_taken v c.args.state.now c.args.packet.offload c.args.packet.bytes.now) taken)

pub returns-else-is_taken : goal.returns-else-is_taken
returns-else-is_taken c v =
    let taken = sym c.is_taken.ensures ∙ c.if-is_taken.false in
    sym (ap (if_taken v c.args.state.now c.args.packet.offload c.args.packet.bytes.now) taken)
