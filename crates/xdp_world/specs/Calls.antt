-- Stated: claims rest on this file.
-- The list of the calls that did something to a world, and what each queue has of it.
use Rattle.std.specs.Prelude.{ℕ, ◌≡◌, List, [], ◌∷◌, ◌++◌, Some, None, if◌then◌else◌, ◌==◌, slice_get, take}
use Rattle.xen_turns.specs.declared.wiring.Wiring.{Wiring}
use Rattle.xdp_world.specs.Activities.{Given, HasHalted, Item, SlotsAwaited, all_came}
use Rattle.xdp_world.specs.Entries.{Entry, listed}

-- A step, with what came of it; or a delivery or a wait for `pages` rx slots that was begun on a queue.
pub data Call : Type 0 where
  Stepped : (entry : Entry) → Call
  Delivers : (queue : ℕ) → (packet : List ℕ) → Call
  Awaits : (queue pages : ℕ) → Call

abbrev pub entries_of : List Call → List Entry
entries_of [] = []
entries_of (Stepped e ∷ cs) = e ∷ entries_of cs
entries_of (Delivers q packet ∷ cs) = entries_of cs
entries_of (Awaits q pages ∷ cs) = entries_of cs

-- A queue's items.
abbrev pub items_of : ℕ → List Call → List Item
items_of q [] = []
items_of q (Stepped e ∷ cs) = (if e.queue == q then all_came (listed e.event) else []) ++ items_of q cs
items_of q (Delivers i packet ∷ cs) = (if i == q then Given packet ∷ [] else []) ++ items_of q cs
items_of q (Awaits i pages ∷ cs) = (if i == q then SlotsAwaited pages ∷ [] else []) ++ items_of q cs

-- Steps alone.
abbrev pub all_stepped : List Entry → List Call
all_stepped [] = []
all_stepped (e ∷ es) = Stepped e ∷ all_stepped es

-- Each step has its event, but those of queues that had halted before it.
abbrev pub HaveCome : (ℕ → Wiring) → ℕ → List Call → Type 0
HaveCome wirings start cs = (i : ℕ) (e : Entry) → slice_get cs i ≡ Some (Stepped e) → e.event ≡ None →
    HasHalted (wirings e.queue) start (items_of e.queue (take i cs))
