-- Stated: claims rest on this file.
-- What C is answered when it says what a queue's guest takes, and when it has a packet delivered that leaves something to the guest.
use Rattle.std.specs.Prelude.{ℕ, ◌≡◌, ◌==◌, ◌^◌, nat_lt, List, Option, None, Some, if◌then◌else◌}
use Rattle.xen_netif.specs.Words.{is_set}
use Rattle.xen_netif.specs.declared.offload.Accepts.{Accepts}
use Rattle.xen_netif.specs.declared.offload.RxOffload.{RxOffload}
use Rattle.xen_netif.specs.declared.offload.RxOffload.TheVariants.{Whole, Validated, Blank, Segmented}
use Rattle.xen_netif.specs.declared.segments.GsoType.{GsoType}
use Rattle.xen_netif.specs.declared.segments.GsoType.TheVariants.{TcpV4, TcpV6}
use Rattle.xen_host.specs.Accepted.{IsAccepting}
use Rattle.xen_host.specs.declared.offering.Accepting.{Accepting}
use Rattle.xen_host.specs.declared.offering.Accepting.TheVariants.{Accepted, Busy}
use Rattle.xen_host.specs.declared.queue.Queue.{Queue}
use Rattle.xdp_host.specs.Begins.{DeliverAnswers}
use Rattle.xdp_host.specs.Offers.{types_of, unknown_offer}

-- The bits of include/laxonje.h.
abbrev pub accepts_of : ℕ → Option Accepts
accepts_of n = if nat_lt n 8 then Some (record { blank_checksums = is_set n 2; segments = types_of n }) else None

abbrev pub accepting_number : Accepting → ℕ
accepting_number Accepted = 0
accepting_number Busy = 2

-- The queue was told what its guest takes, and C gets the number of its answer; or a bit has no name, and nothing has changed.
pub record AcceptAnswers (old new : Queue) (bits told : ℕ) : Type 0 where
  pub given : (accepts : Accepts) → accepts_of bits ≡ Some accepts →
      (answer : Accepting) × (told ≡ accepting_number answer) × IsAccepting old new accepts answer
  pub refused : accepts_of bits ≡ None → (told ≡ unknown_offer) × (new ≡ old)

-- A size of 16 bits, as an extra has it (netif.h, struct xen_netif_extra_info, u.gso).
abbrev pub segmented : GsoType → (size : ℕ) → Option RxOffload
segmented kind size = if nat_lt size (2 ^ 16) then Some (Segmented (record { kind = kind; size = size })) else None

-- The numbers of include/laxonje.h.
abbrev pub offload_of : (number size : ℕ) → Option RxOffload
offload_of number size =
    if number == 0 then Some Whole
    else (if number == 1 then Some Validated
    else (if number == 2 then Some Blank
    else (if number == 3 then segmented TcpV4 size
    else (if number == 4 then segmented TcpV6 size else None))))

abbrev pub unknown_offload : ℕ
unknown_offload = 7

-- The queue was given the packet with what it leaves, and C gets the number of its answer; or that has no name, and nothing has changed.
pub record DeliverAsAnswers (old new : Queue) (producer : ℕ) (packet : List ℕ) (number size told : ℕ) : Type 0 where
  pub given : (o : RxOffload) → offload_of number size ≡ Some o → DeliverAnswers old new producer o packet told
  pub refused : offload_of number size ≡ None → (told ≡ unknown_offload) × (new ≡ old)
