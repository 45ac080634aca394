-- Stated: claims rest on this file.
-- Making a queue of numbers.
use Rattle.std.specs.Prelude.{ℕ, ◌≡◌, ◌≢◌, ◌<◌, ◌≤◌, List, [], Option, None, Some, Contains, length, slice_get}
use Rattle.bpf_lists.specs.declared.list.MapList.{MapList}
use Rattle.bpf_verify.specs.Consistent.{Accepted}
use Rattle.xen_netif.specs.declared.offload.Accepts.{Accepts}
use Rattle.xen_netif.specs.declared.segments.Offers.{Offers}
use Rattle.xen_page.specs.Table.{IsTable}
use Rattle.xen_page.specs.declared.owners.OwnersFault.{OwnersFault}
use Rattle.xen_page.specs.declared.owners.OwnersFault.TheVariants as owned
use Rattle.xen_rx_fill.specs.Wired.{IsWired}
use Rattle.xen_host.specs.Frames.{Limits, limits_of, owners_in}
use Rattle.xen_host.specs.Queues.{packet_of, resting, wired_to}
use Rattle.xen_host.specs.Rest.{no_offload}
use Rattle.xen_host.specs.Wired.{wiring_of}
use Rattle.xen_host.specs.declared.make.MakeFault.{MakeFault}
use Rattle.xen_host.specs.declared.make.MakeFault.TheVariants as fault
use Rattle.xen_host.specs.declared.make.QueueParts.{QueueParts}
use Rattle.xen_host.specs.declared.queue.Queue.{Queue}
use Rattle.xen_host.specs.declared.wires.OwnedWiring.{OwnedWiring}

-- What a host gives.
pub record Given : Type 0 where
  pub owners : List ℕ
  pub limits : Limits
  pub table : List ℕ
  pub tx : ℕ
  pub rx : ℕ
  pub granter : ℕ
  pub user : ℕ
  pub port : ℕ
  pub offers : Offers
  pub accepts : Accepts
  pub ifindex : ℕ
  pub queue : ℕ
  pub tx_index : ℕ
  pub rx_index : ℕ

abbrev pub given_of : QueueParts → Given
given_of p =
    record {
      owners = owners_in p.owners;
      limits = limits_of p.owners;
      table = p.table.now;
      tx = p.tx;
      rx = p.rx;
      granter = p.granter;
      user = p.user;
      port = p.port;
      offers = p.offers;
      accepts = p.accepts;
      ifindex = p.ifindex;
      queue = p.queue;
      tx_index = p.tx_index;
      rx_index = p.rx_index;
    }

-- No more frames than there may be, and a grant table of the frontend's frames.
abbrev pub AreFrames : Given → Type 0
AreFrames g = length g.owners ≤ g.limits.frames

abbrev pub IsTableOf : Given → Type 0
IsTableOf g = (length g.table ≤ g.limits.table) × IsTable g.owners g.granter g.table

-- A ring's frame is the frontend's, and none of its table's.
abbrev pub IsRing : Given → ℕ → Type 0
IsRing g frame = (slice_get g.owners frame ≡ Some g.granter) × (Contains g.table frame → ⊥)

-- The rings are two such frames.
pub record AreRings (g : Given) : Type 0 where
  pub apart : g.tx ≢ g.rx
  pub tx : IsRing g g.tx
  pub rx : IsRing g g.rx

-- Each part is what was given, within its limits.
pub record IsWiredTo (program : Accepted) (lists : List (Option MapList)) (g : Given) (w : OwnedWiring) : Type 0 where
  pub tx : w.tx ≡ g.tx
  pub rx : w.rx ≡ g.rx
  pub table : w.table ≡ g.table
  pub owners : w.owners ≡ g.owners
  pub granter : w.granter ≡ g.granter
  pub user : w.user ≡ g.user
  pub port : w.port ≡ g.port
  pub offers : w.offers ≡ g.offers
  pub accepts : w.accepts ≡ g.accepts
  pub program_is : w.program ≡ program
  pub lists_are : w.lists ≡ lists
  pub ifindex : w.ifindex ≡ g.ifindex
  pub queue : w.queue ≡ g.queue
  pub wired : IsWired (wiring_of w).vif
  pub frames : AreFrames g
  pub table_of : IsTableOf g
  pub rings : AreRings g
  pub domains : g.granter ≢ g.user

-- A queue between turns of these parts, with no packet.
pub record IsMadeOf (program : Accepted) (lists : List (Option MapList)) (g : Given) (q : Queue) : Type 0 where
  pub wires : IsWiredTo program lists g (wired_to q)
  pub state : resting q ≡ Some (record { tx_index = g.tx_index; rx_index = g.rx_index; halt = None })
  pub packet : packet_of q ≡ []
  pub offload : q.engine.offload ≡ no_offload

-- What is reported of the owners' fault.
abbrev pub made_fault : OwnersFault → MakeFault
made_fault owned.Memory = fault.Memory
made_fault owned.Frames = fault.Frames

-- The first of the parts that is wrong. Memory may run out at any of them.
abbrev pub IsFaultOf : Given → MakeFault → Type 0
IsFaultOf g fault.Memory = Unit {0}
IsFaultOf g fault.Frames = g.limits.frames < length g.owners
IsFaultOf g fault.Table = AreFrames g × (IsTableOf g → ⊥)
IsFaultOf g fault.Ring = AreFrames g × IsTableOf g × (AreRings g → ⊥)
IsFaultOf g fault.Domain = AreFrames g × IsTableOf g × AreRings g × (g.granter ≡ g.user)
