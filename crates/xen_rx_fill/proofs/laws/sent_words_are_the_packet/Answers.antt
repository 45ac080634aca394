use Rattle.xen_rx_fill.proofs.ByteLemmas.{sent_bytes}
use Rattle.xen_rx_fill.proofs.laws.sent_words_are_the_packet.Goals as goal

pub returns : goal.returns
returns c = sent_bytes
