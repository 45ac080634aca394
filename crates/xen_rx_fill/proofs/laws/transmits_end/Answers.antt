use Rattle.xen_rx_fill.proofs.Bounds.{bounded_transmit}
use Rattle.xen_rx_fill.proofs.EndLemmas.{ends_transmit}
use Rattle.xen_rx_fill.proofs.laws.transmits_end.Goals as goal

pub returns : goal.returns
returns c = record { ends = ends_transmit; within = λ w x o packet h. bounded_transmit w h x o packet }
