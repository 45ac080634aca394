-- Stated: claims rest on this file.
-- What is answered to what a frontend accepts, which is to become a queue's.
use Rattle.std.specs.Prelude.{◌≡◌, None, IsSome}
use Rattle.xen_netif.specs.declared.offload.Accepts.{Accepts}
use Rattle.xen_host.specs.Queues.{resting, wired_to}
use Rattle.xen_host.specs.declared.offering.Accepting.{Accepting}
use Rattle.xen_host.specs.declared.offering.Accepting.TheVariants.{Accepted, Busy}
use Rattle.xen_host.specs.declared.queue.Queue.{Queue}

-- The frontend accepts this, and nothing else is different.
pub record HasAccepts (old new : Queue) (accepts : Accepts) : Type 0 where
  pub wires : wired_to new ≡ record (wired_to old) { accepts = accepts }
  pub engine : new.engine ≡ old.engine
  pub packet : new.packet ≡ old.packet
  pub share : new.share ≡ old.share

-- Between two turns it has become the queue's. Inside a turn, a delivery or a wait nothing has changed.
abbrev pub IsAccepting : Queue → Queue → Accepts → Accepting → Type 0
IsAccepting old new accepts Accepted = IsSome (resting old) × HasAccepts old new accepts
IsAccepting old new accepts Busy = (resting old ≡ None) × (new ≡ old)
