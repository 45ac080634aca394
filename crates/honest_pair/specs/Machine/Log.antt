-- Stated: claims rest on this file.
-- The events of a pair, as its steps make them.
use Rattle.std.specs.Prelude.{ℕ, ◌≡◌, Bool, true, false, List, [], ◌∷◌, ◌++◌}
use Rattle.xen_page.specs.declared.place.Place.{Place}
use Rattle.xen_steps.specs.Event.{Event, Read, Write, Instr, Load, Add, Notify}
use Rattle.xen_steps.specs.Steps.{Steps, done, ask, never}
use Rattle.xen_steps.specs.declared.want.Want.{Want}
use Rattle.xen_steps.specs.declared.want.Want.TheVariants as want
use Rattle.xen_turns.specs.declared.wiring.Wiring.{Wiring as BackWiring}
use Rattle.xen_buffers.specs.declared.wiring.FrontWiring.{FrontWiring}
use Rattle.xdp_world.specs.Activities.{Given, Item, SlotsAwaited, all_came}
use Rattle.honest_pair.specs.Machine.Memory.{Memory, answer, put}
use Rattle.honest_pair.specs.Machine.Pair.{Activity, Free, Sending, Posting, Polling, BackAt, Asleep, First, Second, Pair, PairEvent, Send}
use Rattle.honest_pair.specs.Machine.Pair.{Await, Deliver, Delivering, Post, Poll, FrontStep, BackStep, Waiting, step}

-- An event of the front, or of the back; or the back woke, and took what was pending.
pub data Logged : Type 0 where
  OfFront : Event → Logged
  OfBack : Event → Logged
  Woke : Logged

-- The event of a want that is answered by this number.
abbrev pub event_by : Want → ℕ → List Event
event_by (want.Read at) a = Read at a ∷ []
event_by (want.Write at v) a = Write at v ∷ []
event_by want.Instr a = Instr ∷ []
event_by (want.Load m k j) a = Load m k j a ∷ []
event_by (want.Add m k j delta) a = Add m k j delta a ∷ []
event_by (want.Notify port) a = Notify port ∷ []
event_by want.Done a = []

abbrev pub asked_of : {A : Type 0} → Steps A → Memory → ℕ → List Event
asked_of (done x) m n = []
asked_of (ask w k) m n = event_by w (answer w m n)
asked_of never m n = []

abbrev pub front_asks : Activity → Memory → ℕ → List Event
front_asks Free m n = []
front_asks (Sending t) m n = asked_of t m n
front_asks (Posting t) m n = asked_of t m n
front_asks (Polling t) m n = asked_of t m n

abbrev pub back_asks : BackAt → Memory → ℕ → List Event
back_asks Asleep m n = []
back_asks (First b t) m n = asked_of t m n
back_asks (Second packet left t) m n = asked_of t m n
back_asks (Delivering asleep packet t) m n = asked_of t m n
back_asks (Waiting asleep pages t) m n = asked_of t m n

-- What begins, a delivery or a wait, if the back is between turns.
abbrev pub begun_at : BackAt → Item → List Item
begun_at Asleep item = item ∷ []
begun_at (First false t) item = item ∷ []
begun_at (First true t) item = []
begun_at (Second copy left t) item = []
begun_at (Delivering asleep packet t) item = []
begun_at (Waiting asleep pages t) item = []

-- What the back's queue has of a step: its event, the packet whose delivery begins, or how many slots the wait is for that begins.
abbrev pub back_item : Pair → PairEvent → ℕ → List Item
back_item p (Send packet) n = []
back_item p Post n = []
back_item p Poll n = []
back_item p FrontStep n = []
back_item p BackStep n = all_came (back_asks p.at p.memory n)
back_item p (Deliver packet) n = begun_at p.at (Given packet)
back_item p (Await pages) n = begun_at p.at (SlotsAwaited pages)

abbrev pub back_items : BackWiring → FrontWiring → Pair → List (PairEvent × ℕ) → List Item
back_items bw fw p [] = []
back_items bw fw p (e ∷ es) = back_item p e.0 e.1 ++ back_items bw fw (step bw fw p e.0 e.1) es

abbrev pub of_front : List Event → List Logged
of_front [] = []
of_front (e ∷ l) = OfFront e ∷ of_front l

abbrev pub of_back : List Event → List Logged
of_back [] = []
of_back (e ∷ l) = OfBack e ∷ of_back l

abbrev pub woke : Bool → List Logged
woke true = Woke ∷ []
woke false = []

abbrev pub logged_back : BackAt → Memory → ℕ → List Logged
logged_back Asleep m n = woke m.pending
logged_back (First b t) m n = of_back (asked_of t m n)
logged_back (Second packet left t) m n = of_back (asked_of t m n)
logged_back (Delivering asleep packet t) m n = of_back (asked_of t m n)
logged_back (Waiting asleep pages t) m n = of_back (asked_of t m n)

-- What a step makes.
abbrev pub logged : Pair → PairEvent → ℕ → List Logged
logged p (Send packet) n = []
logged p Post n = []
logged p Poll n = []
logged p FrontStep n = of_front (front_asks p.activity p.memory n)
logged p BackStep n = logged_back p.at p.memory n
logged p (Deliver packet) n = []
logged p (Await pages) n = []

abbrev pub log : BackWiring → FrontWiring → Pair → List (PairEvent × ℕ) → List Logged
log bw fw p [] = []
log bw fw p (e ∷ es) = logged p e.0 e.1 ++ log bw fw (step bw fw p e.0 e.1) es

-- The words after an event, by those before it.
abbrev pub changed : (Place → ℕ) → Event → Place → ℕ
changed word (Read at a) = word
changed word (Write at v) = put word at v
changed word Instr = word
changed word (Load m k j v) = word
changed word (Add m k j delta old) = word
changed word (Notify port) = word

-- A read answers the word that stands there.
abbrev pub Reads : (Place → ℕ) → Event → Type 0
Reads word (Read at a) = a ≡ word at
Reads word (Write at v) = Unit {0}
Reads word Instr = Unit {0}
Reads word (Load m k j v) = Unit {0}
Reads word (Add m k j delta old) = Unit {0}
Reads word (Notify port) = Unit {0}

-- Each read of either end answers what was last written to its place, else its opening word.
abbrev pub IsFaithful : (Place → ℕ) → List Logged → Type 0
IsFaithful word [] = Unit {0}
IsFaithful word (OfFront e ∷ l) = Reads word e × IsFaithful (changed word e) l
IsFaithful word (OfBack e ∷ l) = Reads word e × IsFaithful (changed word e) l
IsFaithful word (Woke ∷ l) = IsFaithful word l

abbrev pub LogLaw : Type 0
LogLaw = (bw : BackWiring) (fw : FrontWiring) (p : Pair) (es : List (PairEvent × ℕ)) → IsFaithful p.memory.word (log bw fw p es)
