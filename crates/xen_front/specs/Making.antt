-- Stated: claims rest on this file.
-- What a front may be made of, and what it is then.
use Rattle.std.specs.Prelude.{ℕ, ◌≡◌, false, length, None}
use Rattle.xen_front.specs.Fronts.{busy, state_of, wiring_of}
use Rattle.xen_front.specs.Slots.{in_flight}
use Rattle.xen_buffers.specs.declared.desc.FrontDesc.{FrontDesc}
use Rattle.xen_netif.specs.declared.offload.Accepts.{Accepts}
use Rattle.xen_front.specs.declared.front.Front.{Front}
use Rattle.xen_front.specs.declared.state.Ring.{Ring}

-- a ring with nothing in flight, at this index
pub record IsNew (r : Ring) (start : ℕ) : Type 0 where
  pub prod : r.prod ≡ start
  pub cons : r.cons ≡ start
  pub out : (id : ℕ) → in_flight r id ≡ false
  pub size : length r.out ≡ 256

pub record IsMade (d : FrontDesc) (told : Accepts) (f : Front) : Type 0 where
  pub frames : (wiring_of f).frames ≡ d.frames
  pub rings : ((wiring_of f).tx_frame ≡ d.tx_frame) × ((wiring_of f).rx_frame ≡ d.rx_frame)
  pub grants : ((wiring_of f).table.now ≡ d.table.now) × ((wiring_of f).tx.now ≡ d.tx.now) × ((wiring_of f).rx.now ≡ d.rx.now)
  pub back : ((wiring_of f).back ≡ d.back) × ((wiring_of f).port ≡ d.port)
  pub tx : IsNew (state_of f).tx d.start
  pub rx : IsNew (state_of f).rx d.start
  pub accepts : (state_of f).accepts ≡ told
  pub counts : (state_of f).counts ≡ record { okay = 0; dropped = 0; error = 0; other = 0 }
  pub running : (state_of f).halt ≡ None
  pub free : busy f ≡ false
