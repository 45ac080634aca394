use Rattle.xen_rx_fill.proofs.SendParts.{transmit_parts, runs_transmit}
use Rattle.xen_rx_fill.proofs.laws.transmits_are_runs.Goals as goal

pub returns : goal.returns
returns c = record { runs = transmit_parts; transmits = runs_transmit }
