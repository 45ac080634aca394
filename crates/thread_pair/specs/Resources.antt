-- Stated: claims rest on this file.
-- What the threads are given.
use Rattle.std.specs.Prelude.{ℕ, suc, zero, ◌+◌, ◌*◌, ◌<◌, ◌≡◌, List, [], ◌∷◌, length}
use Rattle.bpf_maps.specs.Seats.{CountersView, new_seat}
use Rattle.xdp_world.specs.Frames.{frame_of, owners_of}
use Rattle.xen_front.specs.Fronts.{wiring_of}
use Rattle.xen_page.specs.Mapping.{IsMappedBy}
use Rattle.xen_page.specs.declared.entry.Rights.TheVariants.{ReadWrite}
use Rattle.thread_pair.specs.declared.resources.BackResources.{BackResources}
use Rattle.thread_pair.specs.declared.resources.FrontResources.{FrontResources}

-- The number of a back's seat.
abbrev pub seat_number : BackResources → ℕ
seat_number k = k.seat.number

-- The n numbers below n, the greatest first.
abbrev pub falling : ℕ → List ℕ
falling zero = []
falling (suc n) = n ∷ falling n

-- What a back is given if there are `queues` queues: its queue's rings, which the front lent for writing, and its queue's new seat at the
-- counters.
pub record IsBackOf (c : CountersView) (queues : ℕ) (k : BackResources) : Type 0 where
  pub queue : k.queue < queues
  pub tx : IsMappedBy (owners_of queues) 1 k.tx
  pub rx : IsMappedBy (owners_of queues) 1 k.rx
  pub tx_frame : k.tx.frame ≡ frame_of (514 * k.queue)
  pub rx_frame : k.rx.frame ≡ frame_of (514 * k.queue + 1)
  pub tx_writable : k.tx.rights ≡ ReadWrite
  pub rx_writable : k.rx.rights ≡ ReadWrite
  pub seat : k.seat ≡ new_seat c k.queue

-- A front's own if there are `queues` queues: a front whose pages are among their frames.
pub record IsFrontOf (queues : ℕ) (k : FrontResources) : Type 0 where
  pub queue : k.queue < queues
  pub frames : (wiring_of k.front).frames ≡ length (owners_of queues)
