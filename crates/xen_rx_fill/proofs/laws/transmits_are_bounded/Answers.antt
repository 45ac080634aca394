use Rattle.xen_netif.specs.Offloads.{has_extra}
use Rattle.xen_rx_fill.proofs.Figures.{n, n_any, n_none, n_transmit}
use Rattle.xen_rx_fill.proofs.TouchedLemmas.{of_transmit}
use Rattle.xen_rx_fill.proofs.laws.transmits_are_bounded.Goals as goal

pub returns : goal.returns
returns c =
    record {
      accesses = λ w x o packet p out s t. n_any (has_extra o) (n p) (n_transmit w x o packet p out s t);
      plain_accesses = λ w x o packet p out none s t. n_none (has_extra o) (n p) none (n_transmit w x o packet p out s t);
      touches = λ w x o packet p out t. of_transmit w x o packet p out t;
    }
