-- Stated: claims rest on this file.
-- What C is answered when it makes a queue.
use Rattle.std.specs.Prelude.{ℕ, ◌≡◌, ◌⊎◌, List, Option, Some, map, false}
use Rattle.bpf_lists.specs.declared.list.MapList.{MapList}
use Rattle.bpf_verify.specs.Consistent.{Accepted}
use Rattle.xen_page.specs.declared.extents.Extent.{Extent}
use Rattle.xen_host.specs.Frames.{Limits}
use Rattle.xen_host.specs.Making.{Given, IsFaultOf, IsMadeOf}
use Rattle.xen_host.specs.declared.make.MakeFault.{MakeFault}
use Rattle.xen_host.specs.declared.make.MakeFault.TheVariants as make
use Rattle.xen_host.specs.declared.queue.Queue.{Queue}
use Rattle.xdp_host.specs.declared.queue_extents.XdpExtent.{XdpExtent}
use Rattle.xdp_host.specs.declared.queue_fault.QueueFault.{QueueFault}
use Rattle.xdp_host.specs.declared.queue_fault.QueueFault.TheVariants.{Make, Empty}
use Rattle.xen_netif.specs.Segments.{no_offers}
use Rattle.xen_netif.specs.declared.offload.Accepts.{Accepts}
use Rattle.xdp_host.specs.declared.queue_abi.XdpQueueDesc.{XdpQueueDesc}

-- The extents that C gives.
abbrev pub extent_of : XdpExtent → Extent
extent_of x = record { frames = x.frames; domain = x.domain }

abbrev pub extents_of : List XdpExtent → List Extent
extents_of extents = map extent_of extents

-- A new queue's guest takes what leaves it nothing.
abbrev pub accepts_whole : Accepts
accepts_whole = record { blank_checksums = false; segments = no_offers }

-- What C gives, with the limits of the form that it gives the owners in.
abbrev pub given : List ℕ → Limits → List ℕ → XdpQueueDesc → Given
given owners limits table d =
    record {
      owners = owners;
      limits = limits;
      table = table;
      tx = d.tx;
      rx = d.rx;
      granter = d.granter;
      user = d.user;
      port = d.port;
      offers = no_offers;
      accepts = accepts_whole;
      ifindex = d.ifindex;
      queue = d.queue;
      tx_index = d.tx_index;
      rx_index = d.rx_index;
    }

-- The numbers of include/laxonje.h.
abbrev pub fault_number : QueueFault → ℕ
fault_number (Make make.Memory) = 1
fault_number (Make make.Frames) = 2
fault_number (Make make.Table) = 3
fault_number (Make make.Ring) = 4
fault_number (Make make.Domain) = 5
fault_number Empty = 6

-- A queue of the program with these lists was made in place of what was there, and the answer is 0.
pub record IsMade (p : Accepted) (lists : List (Option MapList)) (g : Given) (new : Option Queue) (answer : ℕ) : Type 0 where
  pub queue : Queue
  pub there : new ≡ Some queue
  pub made : IsMadeOf p lists g queue
  pub answer_is : answer ≡ 0

-- The answer tells the fault, and what was there is there.
pub record IsUnmade (g : Given) (old new : Option Queue) (answer : ℕ) : Type 0 where
  pub fault : MakeFault
  pub is : IsFaultOf g fault
  pub kept : new ≡ old
  pub answer_is : answer ≡ fault_number (Make fault)

abbrev pub MakesOr : Accepted → List (Option MapList) → Given → Option Queue → Option Queue → ℕ → Type 0
MakesOr p lists g old new answer = IsMade p lists g new answer ⊎ IsUnmade g old new answer
