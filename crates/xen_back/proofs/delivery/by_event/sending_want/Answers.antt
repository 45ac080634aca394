use Rattle.std.proofs.Common.{◌∙◌, sym}
use Rattle.xen_steps.proofs.BindLemmas.{asks_on, want_bind}
use Rattle.xen_rx_fill.specs.Rest.{rest_of}
use Rattle.xen_turns.specs.Deliveries.{arrived}
use Rattle.xen_back.proofs.delivery.by_event.sending_want.Goals as goal

pub returns : goal.returns
returns c =
    let w = c.args.vif.now in
    let s = c.args.state.now in
    let t = c.args.sending.now in
    let start = rest_of w s.rx_index t.packet.offload t.packet.bytes.now t.transmit.phase in
    let same = c.want.ensures.want ∙ want_bind start (arrived s) c.want.ensures.asks in
    record { want = same; asks = λ d. asks_on start (arrived s) c.want.ensures.asks (sym same ∙ d) }
