-- For proofs: no claim rests on this file.
-- Asks that follow one another: the responses of a chain, and of rx slots.
use Rattle.std.specs.Prelude.{ℕ, zero, suc, ◌+◌, List, [], ◌∷◌, length, slice_index}
use Rattle.xen_netif.specs.declared.offload.RxOffload.{RxOffload}
use Rattle.xen_steps.specs.Places.{add32}
use Rattle.xen_rx_fill.specs.Packets.{response_word, target_at}
use Rattle.xen_rx_fill.specs.Places.{rx_slot, tx_slot}
use Rattle.xen_rx_fill.specs.declared.target.Grants.{Grants}
use Rattle.xen_rx_fill.specs.declared.target.Target.{Target}
use Rattle.xen_rx_fill.specs.declared.vif.Vif.{Vif}
use Rattle.xen_host.specs.Asks.{Ask}
use Rattle.xen_host.specs.Asks as ask

-- n tx responses, from the i-th on
abbrev pub stores : Vif → ℕ → List ℕ → ℕ → ℕ → List Ask
stores w t words i zero = []
stores w t words i (suc n) = ask.Store (tx_slot w (add32 t i) 0) (slice_index words i) ∷ stores w t words (i + 1) n

-- the i-th rx response
abbrev pub reply : Vif → ℕ → RxOffload → List ℕ → Grants → List Target → ℕ → Ask
reply w x o packet grants ts i =
    ask.StoreTwo (rx_slot w (add32 x i) 0) (response_word o grants packet (length ts) i (target_at ts i).id 0)
    (response_word o grants packet (length ts) i (target_at ts i).id 1)

-- n rx responses, from the i-th on
abbrev pub replies : Vif → ℕ → RxOffload → List ℕ → Grants → List Target → ℕ → ℕ → List Ask
replies w x o packet grants ts i zero = []
replies w x o packet grants ts i (suc n) = reply w x o packet grants ts i ∷ replies w x o packet grants ts (i + 1) n
