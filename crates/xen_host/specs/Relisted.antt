-- Stated: claims rest on this file.
-- What is answered to lists that are to become a queue's.
use Rattle.std.specs.Prelude.{◌≡◌, List, Option, None, IsSome}
use Rattle.bpf_lists.specs.declared.list.MapList.{MapList}
use Rattle.xen_host.specs.Queues.{resting, wired_to}
use Rattle.xen_host.specs.declared.queue.Queue.{Queue}
use Rattle.xen_host.specs.declared.relisting.Relist.{Relist}
use Rattle.xen_host.specs.declared.relisting.Relist.TheVariants.{Relisted, Busy}

-- Its maps are looked up in these lists, and nothing else is different.
pub record HasLists (old new : Queue) (lists : List (Option MapList)) : Type 0 where
  pub wires : wired_to new ≡ record (wired_to old) { lists = lists }
  pub engine : new.engine ≡ old.engine
  pub packet : new.packet ≡ old.packet
  pub share : new.share ≡ old.share

-- Between two turns the lists have become the queue's. Inside a turn, a delivery or a wait nothing has changed.
abbrev pub IsRelist : Queue → Queue → List (Option MapList) → Relist → Type 0
IsRelist old new lists Relisted = IsSome (resting old) × HasLists old new lists
IsRelist old new lists Busy = (resting old ≡ None) × (new ≡ old)
