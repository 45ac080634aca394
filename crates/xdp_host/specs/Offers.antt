-- Stated: claims rest on this file.
-- What C is answered when it has a queue make offers.
use Rattle.std.specs.Prelude.{ℕ, ◌≡◌, nat_lt, Option, None, Some, if◌then◌else◌}
use Rattle.xen_netif.specs.Words.{is_set}
use Rattle.xen_netif.specs.declared.segments.Offers.{Offers}
use Rattle.xen_host.specs.Offered.{IsOffering}
use Rattle.xen_host.specs.declared.offering.Offering.{Offering}
use Rattle.xen_host.specs.declared.offering.Offering.TheVariants.{Offered, Busy}
use Rattle.xen_host.specs.declared.queue.Queue.{Queue}

-- The bits of include/laxonje.h.
abbrev pub types_of : ℕ → Offers
types_of n = record { gso_tcpv4 = is_set n 0; gso_tcpv6 = is_set n 1 }

abbrev pub offers_of : ℕ → Option Offers
offers_of n = if nat_lt n 4 then Some (types_of n) else None

abbrev pub offering_number : Offering → ℕ
offering_number Offered = 0
offering_number Busy = 2

abbrev pub unknown_offer : ℕ
unknown_offer = 3

-- The queue was given the offers, and C gets the number of its answer; or a bit has no name, and nothing has changed.
pub record OfferAnswers (old new : Queue) (bits told : ℕ) : Type 0 where
  pub given : (offers : Offers) → offers_of bits ≡ Some offers →
      (answer : Offering) × (told ≡ offering_number answer) × IsOffering old new offers answer
  pub refused : offers_of bits ≡ None → (told ≡ unknown_offer) × (new ≡ old)
