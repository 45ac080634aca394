use Rattle.std.proofs.Common.{ap, sym, ◌∙◌}
use Rattle.xen_steps.specs.Steps.{bind}
use Rattle.xen_turns.specs.Deliveries.{arrived, unless_halted}
use Rattle.xen_back.proofs.delivery.by_event.begun_accepted.Goals as goal

pub returns-in-Some : goal.returns-in-Some
returns-in-Some c v = sym (ap (unless_halted v c.args.state.now c.args.packet.offload c.args.packet.bytes.now) c.in-Some.is)

pub returns-in-None : goal.returns-in-None
returns-in-None c v =
    let packet = c.args.packet in
    ap (λ o. bind o (arrived c.args.state.now)) (c.begin-transmit.ensures v c.args.state.now.rx_index packet.offload packet.bytes.now)
    ∙ sym (ap (unless_halted v c.args.state.now packet.offload packet.bytes.now) c.in-None.is)
