-- Stated: claims rest on this file.
-- What C is answered of counters that queues share, in the numbers of include/laxonje.h.
use Rattle.std.specs.Prelude.{ℕ, ◌≡◌, ◌<◌, ◌⊎◌, None, Option, Some}
use Rattle.bpf_maps.specs.Layout.{total}
use Rattle.bpf_note.specs.Shape.{IsCounter}
use Rattle.bpf_verify.specs.Consistent.{Accepted}
use Rattle.xen_host.specs.Queues.{wired_to}
use Rattle.xen_host.specs.Sharing.{AreNewFor, HasAdded, HasPassed, HasRead, IsPassFault, IsShareFault, SharesNow}
use Rattle.xen_host.specs.declared.queue.Queue.{Queue}
use Rattle.xen_host.specs.declared.sharing.Share.{Share}
use Rattle.xen_host.specs.declared.sharing.ShareFault.{ShareFault}
use Rattle.xen_host.specs.declared.sharing.ShareFault.TheVariants as share
use Rattle.xen_host.specs.declared.sharing.SharedCounters.{SharedCounters}
use Rattle.xen_host.specs.declared.sharing.SharedFault.{SharedFault}
use Rattle.xen_host.specs.declared.sharing.SharedFault.TheVariants as shared

abbrev pub shared_number : SharedFault → ℕ
shared_number shared.Memory = 1
shared_number shared.Seats = 2

abbrev pub share_number : ShareFault → ℕ
share_number share.Memory = 1
share_number share.Seats = 2
share_number share.Busy = 3
share_number share.Shared = 4
share_number share.Maps = 5

abbrev pub nothing_to_share : ℕ
nothing_to_share = 6

abbrev pub no_counter : ℕ
no_counter = 1

-- Counters of the program's maps were made, with a seat for each of these queues; or the answer says why not, and what was there is there.
abbrev pub MakesShared : Accepted → ℕ → (old new : Option SharedCounters) → ℕ → Type 0
MakesShared p queues old new answer =
    ((c : SharedCounters) × (new ≡ Some c) × AreNewFor p queues c × (answer ≡ 0)) ⊎
    ((f : SharedFault) × (answer ≡ shared_number f) × (new ≡ old) × (f ≡ shared.Seats → (queues ≡ 0) ⊎ (63 < queues)))

-- The number that one load found, which is an operation of the reader's seat; or there is no such counter.
abbrev pub ReadsShared : (old new : SharedCounters) → (m k j : ℕ) → ℕ → Type 0
ReadsShared old new m k j n = HasRead old new m k j n ⊎ ((IsCounter old.program.shapes m k j → ⊥) × (n ≡ 0) × (new ≡ old))

-- The amount was added in one operation of the reader's seat; or there is no such counter, and nothing has changed.
abbrev pub AddsShared : (old new : SharedCounters) → (m k j amount : ℕ) → ℕ → Type 0
AddsShared old new m k j amount answer =
    ((n : ℕ) × HasAdded old new m k j amount n × (answer ≡ 0)) ⊎
    ((IsCounter old.program.shapes m k j → ⊥) × (answer ≡ no_counter) × (new ≡ old))

-- The queue shares the counters, or the answer says why not, and neither has changed.
abbrev pub ShareAnswers : (old new : Queue) → (c c_after : SharedCounters) → ℕ → Type 0
ShareAnswers old new c c_after answer =
    ((answer ≡ 0) × SharesNow old new c c_after) ⊎
    ((f : ShareFault) × (answer ≡ share_number f) × IsShareFault old c f × (new ≡ old) × (c_after ≡ c))

-- The queue's share is the other's; or the answer says why not, and neither has changed.
abbrev pub PassAnswers : (old new to to_after : Queue) → ℕ → Type 0
PassAnswers old new to to_after answer =
    ((answer ≡ 0) × HasPassed old new to to_after) ⊎
    ((f : ShareFault) × (answer ≡ share_number f) × IsPassFault old to f × (new ≡ old) × (to_after ≡ to))

-- How many words of counters are lent to a queue's step: as many as its program's maps have, and none if it shares its counters.
abbrev pub words_by : Option Share → ℕ → ℕ
words_by None n = n
words_by (Some s) n = 0

abbrev pub words_of : Queue → ℕ
words_of q = words_by q.share (total (wired_to q).program.shapes)
