use Rattle.std.proofs.Common.{◌∙◌}
use Rattle.xen_rx_fill.proofs.SendLemmas.{going_asks, no_number}
use Rattle.xen_rx_fill.proofs.transmit.Transmit.feed.Goals as goal

pub returns-clause-rest : goal.returns-clause-rest
returns-clause-rest c number =
    c.settled.ensures c.args.vif.now c.args.rx_index c.args.packet.now.offload c.args.packet.now.bytes.now ∙ c.phase_fed-next.ensures ∙ no_number c.args.vif.now c.args.rx_index c.args.packet.now.offload c.args.packet.now.bytes.now c.args.self.phase c.args.word number

pub returns-clause-asked : goal.returns-clause-asked
returns-clause-asked c = going_asks c.args.vif.now c.args.rx_index c.args.packet.now.offload c.args.packet.now.bytes.now c.args.self.phase c.args.self.going
