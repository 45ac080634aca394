-- Stated: claims rest on this file.
-- What is answered to offers that are to become a queue's.
use Rattle.std.specs.Prelude.{◌≡◌, None, IsSome}
use Rattle.xen_netif.specs.declared.segments.Offers.{Offers}
use Rattle.xen_host.specs.Queues.{resting, wired_to}
use Rattle.xen_host.specs.declared.offering.Offering.{Offering}
use Rattle.xen_host.specs.declared.offering.Offering.TheVariants.{Offered, Busy}
use Rattle.xen_host.specs.declared.queue.Queue.{Queue}

-- It makes these offers, and nothing else is different.
pub record HasOffers (old new : Queue) (offers : Offers) : Type 0 where
  pub wires : wired_to new ≡ record (wired_to old) { offers = offers }
  pub engine : new.engine ≡ old.engine
  pub packet : new.packet ≡ old.packet
  pub share : new.share ≡ old.share

-- Between two turns the offers have become the queue's. Inside a turn, a delivery or a wait nothing has changed.
abbrev pub IsOffering : Queue → Queue → Offers → Offering → Type 0
IsOffering old new offers Offered = IsSome (resting old) × HasOffers old new offers
IsOffering old new offers Busy = (resting old ≡ None) × (new ≡ old)
