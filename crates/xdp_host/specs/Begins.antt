-- Stated: claims rest on this file.
-- What C is answered when it has a packet delivered, or waits for rx slots.
use Rattle.std.specs.Prelude.{ℕ, ◌≡◌, ◌<◌, ◌≤◌, List}
use Rattle.xen_netif.specs.declared.offload.RxOffload.{RxOffload}
use Rattle.xen_host.specs.Queues.{IsBegin, IsWaitBegin}
use Rattle.xen_host.specs.declared.queue.Queue.{Queue}
use Rattle.xen_host.specs.declared.task.Begin.{Begin}
use Rattle.xen_host.specs.declared.task.Begin.TheVariants as begin

-- The numbers of include/laxonje.h.
abbrev pub begin_number : Begin → ℕ
begin_number begin.Begun = 0
begin_number begin.Busy = 2
begin_number begin.NoFrame = 3
begin_number begin.NotAccepted = 6

-- There is no queue.
abbrev pub no_queue : ℕ
no_queue = 1

-- The queue was given the rx producer and the packet with what it leaves to the guest, and C gets the number of its answer.
pub record DeliverAnswers (old new : Queue) (producer : ℕ) (o : RxOffload) (packet : List ℕ) (told : ℕ) : Type 0 where
  pub answer : Begin
  pub told_is : told ≡ begin_number answer
  pub taken : IsBegin old new producer o packet answer

-- A wait for more slots than a ring has (256: netif.h's __CONST_RING_SIZE of a page) would never end.
abbrev pub too_many_slots : ℕ
too_many_slots = 4

-- The queue was to wait for `pages` slots, and C gets its answer; or the ring doesn't have so many, and nothing has changed.
pub record WaitAnswers (old new : Queue) (pages : ℕ) (told : ℕ) : Type 0 where
  pub taken : pages ≤ 256 → (answer : Begin) × (told ≡ begin_number answer) × IsWaitBegin old new pages answer
  pub refused : 256 < pages → (told ≡ too_many_slots) × (new ≡ old)
