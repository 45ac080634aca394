-- Stated: claims rest on this file.
-- A host that makes a queue's accesses itself: what it has between two calls, and how it goes on.
use Rattle.std.specs.Prelude.{ℕ, zero, suc, ◌≡◌, ◌≤◌, false, List, ◌++◌, Option, length}
use Rattle.xen_page.specs.Access.{Performs}
use Rattle.xen_page.specs.declared.access.Access.{Access}
use Rattle.xen_steps.specs.Drive.{accesses}
use Rattle.xen_steps.specs.Event.{Event}
use Rattle.xen_host.specs.Asks.{Ask, did_all, did_by, is_over, read_by}
use Rattle.xen_host.specs.Queues.{HasStepped}
use Rattle.xen_host.specs.declared.op.HostOp.{HostOp}
use Rattle.xen_host.specs.declared.queue.Queue.{Queue}

-- The queue, the pages, the words that the host lends, the counters, and what it was asked: asks that take no answer, and the last.
pub record Held (S : Type 0) : Type 0 where
  pub queue : Queue
  pub bus : S
  pub lent : List ℕ
  pub counters : List ℕ
  pub first : List Ask
  pub last : Ask

-- The events of what a host was asked, with what it has read in front of the lent words then.
abbrev pub done_by : {S : Type 0} → Held S → List ℕ → List Event
done_by h read = (did_all h.first h.lent ++ did_by h.last h.lent) ++ read_by h.last read

-- A host makes the accesses that it was asked for, each once, in this order and no others, and steps its queue with the words that it
-- has read.
pub record Steps {S : Type 0} (log : S → Option (List Access)) (gives : S → Access → S → Type 0) (h h' : Held S) : Type 0 where
  pub goes_on : is_over h.last ≡ false
  pub read : List ℕ
  pub page : 1024 ≤ length read
  pub performed : Performs log gives h.bus (accesses (done_by h read)) h'.bus
  pub ops : List HostOp
  pub ops_after : List HostOp
  pub count : ℕ
  pub stepped : HasStepped h.queue h'.queue read h'.lent h.counters h'.counters ops ops_after count
  pub lends : length h'.lent ≡ length read
  pub first : h'.first ≡ stepped.first
  pub last : h'.last ≡ stepped.last

-- So many steps.
abbrev pub StepsBy : {S : Type 0} → (S → Option (List Access)) → (S → Access → S → Type 0) → ℕ → Held S → Held S → Type 0
StepsBy log gives zero h h' = h ≡ h'
StepsBy {S = S} log gives (suc n) h h' = (m : Held S) × StepsBy log gives n h m × Steps log gives m h'
