-- Stated: claims rest on this file.
-- Words of the two ring pages that a vif shares.
use Rattle.std.specs.Prelude.{ℕ}
use Rattle.xen_page.specs.declared.place.Place.{Place}
use Rattle.xen_steps.specs.Places.{page_word, rx_entry, tx_entry}
use Rattle.xen_rx_fill.specs.declared.vif.Vif.{Vif}

-- words of the headers: req_prod 0, req_event 1, rsp_prod 2, rsp_event 3
abbrev pub tx_word : Vif → ℕ → Place
tx_word w n = page_word w.tx n

abbrev pub rx_word : Vif → ℕ → Place
rx_word w n = page_word w.rx n

-- word j of the entry that an index names
abbrev pub tx_slot : Vif → ℕ → ℕ → Place
tx_slot w i j = tx_entry w.tx i j

abbrev pub rx_slot : Vif → ℕ → ℕ → Place
rx_slot w i j = rx_entry w.rx i j
