use Rattle.xen_rx_fill.proofs.SendLemmas.{going_asks}
use Rattle.xen_rx_fill.proofs.transmit.Transmit.want.Goals as goal

pub returns-clause-asks : goal.returns-clause-asks
returns-clause-asks c = going_asks c.args.vif.now c.args.rx_index c.args.packet.now.offload c.args.packet.now.bytes.now c.args.self.now.phase c.args.self.now.going
