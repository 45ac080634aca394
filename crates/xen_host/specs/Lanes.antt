-- Stated: claims rest on this file.
-- What contracts see of a queue's turn of several packets: its engines, one for each packet, and the events of each.
use Rattle.std.specs.Prelude.{ℕ, ◌≡◌, ◌≤◌, ◌+◌, ◌-◌, ◌*◌, ◌%◌, Bool, true, false, not, List, [], ◌∷◌, ◌++◌, None, ◌==◌, ◌&&◌, if◌then◌else◌, length, nat_le}
use Rattle.xen_page.specs.declared.place.Place.{Place}
use Rattle.xen_ring.specs.Index.{distance}
use Rattle.xen_steps.specs.Event.{Event, Read}
use Rattle.xen_steps.specs.Places.{page_word}
use Rattle.xen_steps.specs.Steps.{Steps, Runs}
use Rattle.xen_rx_fill.specs.Places.{tx_word}
use Rattle.xen_turns.specs.Turned.{Ending}
use Rattle.xen_turns.specs.Woven.{AllBelow, IsRising, Made, is_in_order, of_turn, turns_in_order}
use Rattle.xen_turns.specs.declared.state.State.{State}
use Rattle.xen_turns.specs.declared.turn.Halt.{Halt}
use Rattle.xen_turns.specs.declared.turn.Kind.{Kind}
use Rattle.xen_turns.specs.declared.turn.Kind.TheVariants as kind
use Rattle.xen_turns.specs.declared.wiring.Wiring.{Wiring}
use Rattle.xen_host.specs.Asks.{Ask, Push, Read as ReadAsk, TurnOver, did_by, op_of}
use Rattle.xen_host.specs.Early.{at_rx, engine_at_rx, is_early, is_late}
use Rattle.xen_host.specs.EngineAt.{EngineAt}
use Rattle.xen_host.specs.Rest.{is_turning, rest_in}
use Rattle.xen_host.specs.UnderWay.{IsTurningAt, TurnGoesAt}
use Rattle.xen_host.specs.declared.op.HostOp.{HostOp}
use Rattle.xen_host.specs.declared.stage.Stage.{Stage}
use Rattle.xen_host.specs.declared.stage.Stage.TheVariants as stage

-- ---- what the host is asked

-- The words of each turn in the lent ones: those of a page, behind those of the slots that are read ahead.
abbrev pub own : ℕ → ℕ
own k = 48 + 1024 * k

-- Of the tx ring's pushes one is said for all, behind the last.
abbrev pub is_withheld : Wiring → Ask → Bool
is_withheld w (Push at word read) = (at.frame == w.vif.tx) && (at.word == 2)
is_withheld w a = false

-- ---- what is under way

-- One of the turns: its engine, the state in which it began, and what it asked last.
pub record LaneAt : Type 0 where
  pub engine : EngineAt
  pub began : State
  pub asked : Ask

-- What an ask that was withheld would have done: it is the last that its engine knows of.
abbrev pub withheld : Wiring → Ask → List Event
withheld w a = if is_withheld w a then did_by a [] else []

-- It is answered, but for the push.
abbrev pub held_at : Stage → Bool
held_at stage.Push = true
held_at g = false

abbrev pub is_held : EngineAt → Bool
is_held e = held_at e.stage

abbrev pub all_held : List LaneAt → Bool
all_held [] = true
all_held (l ∷ more) = is_held l.engine && all_held more

-- Its packet is on its way back.
abbrev pub is_filling : Stage → Bool
is_filling (stage.Fill f purpose) = true
is_filling g = false

-- Nothing of this comes in the order of the turns.
abbrev pub is_calm : Wiring → List Event → Bool
is_calm w [] = true
is_calm w (e ∷ t) = not (is_in_order w e) && is_calm w t

abbrev pub rest_of : EngineAt → Steps Ending
rest_of e = rest_in e.wires e.state e.stage e.work

-- The turn halted the queue.
abbrev pub IsHalt : Kind → Type 0
IsHalt k = (cause : Halt) × (k ≡ kind.Halted cause)

-- One of the turns has come so far with these events behind its look. Until its program runs, the rx index is of no use.
pub record IsLane (w : Wiring) (look events : List Event) (l : LaneAt) : Type 0 where
  pub wires : l.engine.wires ≡ w
  pub running : l.began.halt ≡ None
  pub going : TurnGoesAt l.engine l.asked l.began (look ++ (events ++ withheld w l.asked))
  pub free : is_early l.engine.stage ≡ true → is_calm w events ≡ true → (x : ℕ) →
      IsTurningAt (engine_at_rx x l.engine) (at_rx x l.began) (look ++ (events ++ withheld w l.asked)) l.asked
  pub on : is_early l.engine.stage ≡ false → is_late l.engine.stage ≡ true
  pub ran : is_filling l.engine.stage ≡ true → is_calm w events ≡ false
  pub held : is_withheld w l.asked ≡ is_held l.engine
  pub halts : (k : Kind) → l.asked ≡ TurnOver k → IsHalt k

-- What is left ends in a halt, or with the slots before this index answered.
abbrev pub EndsAt : ℕ → Steps Ending → Type 0
EndsAt t s = (trace : List Event) (r : Ending) → Runs s trace r → r.0.halt ≡ None → r.0.tx_index ≡ t

-- So many slots at least are answered, from this index on, unless it ends in a halt.
abbrev pub EndsPast : (t n : ℕ) → Steps Ending → Type 0
EndsPast t n s = (trace : List Event) (r : Ending) → Runs s trace r → r.0.halt ≡ None → n ≤ distance t r.0.tx_index

-- What is left of a turn with these events ends so; as long as its program is still to run, at each rx index.
abbrev pub EndsEach : Wiring → (Steps Ending → Type 0) → List Event → EngineAt → Type 0
EndsEach w ends events e = ends (rest_of e) × (is_early e.stage ≡ true → is_calm w events ≡ true → (x : ℕ) → ends (rest_of (engine_at_rx x e)))

-- Its chain ends where the next turn's begins. What is left of the last ends as `ends` says.
abbrev pub IsChained : Wiring → (Steps Ending → Type 0) → List Event → EngineAt → List LaneAt → Type 0
IsChained w ends events e [] = EndsEach w ends events e
IsChained w ends events e (next ∷ more) = EndsEach w (EndsAt next.began.tx_index) events e

-- The rx index behind one of the turns, which began to use slots at x, if it did.
abbrev pub rx_behind : Wiring → ℕ → List Event → LaneAt → ℕ
rx_behind w x events l = if is_calm w events then x else l.engine.state.rx_index

-- The k-th turn, with those behind it. Its program ran, if at all, with the rx index behind those before it. If one of those isn't held it
-- has made nothing that comes in the order of the turns.
pub record IsPlaced (w : Wiring) (ends : Steps Ending → Type 0) (look events : List Event) (x : ℕ) (before_held : Bool) (l : LaneAt) (more : List LaneAt) :
    Type 0 where
  pub lane : IsLane w look events l
  pub rx : is_calm w events ≡ false → l.began.rx_index ≡ x
  pub quiet : before_held ≡ false → is_calm w events ≡ true
  pub chained : IsChained w ends events l.engine more

-- The turns from the k-th on.
abbrev pub AreFrom : (w : Wiring) (p : ℕ) (ends : Steps Ending → Type 0) (k x : ℕ) (before_held : Bool) (look : List Event) → List LaneAt → List Made →
    Type 0
AreFrom w p ends k x held look [] made = Unit {0}
AreFrom w p ends k x held look (l ∷ more) made = IsPlaced w ends look (of_turn k made) x held l more ×
    AreFrom w p ends (k + 1) (rx_behind w x (of_turn k made) l) (held && is_held l.engine) (Read (tx_word w.vif 0) p ∷ []) more made

-- The rx index behind all that was sent: behind the turns that are held, or behind the first that isn't, once it has sent.
abbrev pub IsRx : Wiring → (k x : ℕ) → List LaneAt → List Made → ℕ → Type 0
IsRx w k x [] made rx = rx ≡ x
IsRx w k x (l ∷ more) made rx =
    (is_held l.engine ≡ true → IsRx w (k + 1) (rx_behind w x (of_turn k made) l) more made rx)
    × (is_held l.engine ≡ false → (is_calm w (of_turn k made) ≡ true → rx ≡ x)
    × (is_calm w (of_turn k made) ≡ false → is_filling l.engine.stage ≡ false → rx ≡ l.engine.state.rx_index))

abbrev pub FirstBegins : State → List LaneAt → Type 0
FirstBegins s [] = Unit {0}
FirstBegins s (l ∷ more) = l.began.tx_index ≡ s.tx_index

-- Turns that are under way side by side since this state, the rx index behind what they sent, and all that was made.
pub record AreLanes (w : Wiring) (s : State) (p : ℕ) (look : List Event) (ends : Steps Ending → Type 0) (lanes : List LaneAt) (rx : ℕ) (made : List Made) :
    Type 0 where
  pub first : FirstBegins s lanes
  pub from : AreFrom w p ends 0 s.rx_index true look lanes made
  pub none_else : AllBelow (length lanes) made
  pub order : IsRising 0 (turns_in_order w made)
  pub sent : IsRx w 0 s.rx_index lanes made rx

-- ---- one goes on

-- A lane that has made nothing in order may begin to do so at this rx index.
abbrev pub begun_at : Wiring → ℕ → List Event → State → State
begun_at w rx before b = if is_calm w before then at_rx rx b else b

-- A lane goes on from its engine as it is, and then begins nothing that comes in order; or with the rx index set, if its program is still to run.
pub data StartsFrom (w : Wiring) (rx : ℕ) (before : List Event) (l : LaneAt) (events : List Event) : EngineAt → State → Type 0 where
  as_it_is : (is_calm w before ≡ true → is_filling l.engine.stage ≡ false → is_calm w events ≡ true) → StartsFrom w rx before l events l.engine l.began
  with_rx : is_early l.engine.stage ≡ true → StartsFrom w rx before l events (engine_at_rx rx l.engine) (begun_at w rx before l.began)

-- From an engine that was asked this, and whose lane had made `before`, to another, with these events. `next` says that all before it are held,
-- `rx` is the rx index behind what was sent.
pub record LaneMoves (w : Wiring) (next : Bool) (rx rx_after : ℕ) (before : List Event) (asked : Ask) (old new : EngineAt) (events : List Event) (last : Ask) :
    Type 0 where
  pub wires : new.wires ≡ old.wires
  pub turning : is_turning old.stage ≡ true
  pub unheld : is_held old ≡ false
  pub turn : (s : State) (trace : List Event) → IsTurningAt old s trace asked → TurnGoesAt new last s (trace ++ (events ++ withheld w last))
  pub free : is_early new.stage ≡ true → is_calm w (before ++ events) ≡ true → (is_early old.stage ≡ true) ×
      ((x : ℕ) (s : State) (trace : List Event) → IsTurningAt (engine_at_rx x old) (at_rx x s) trace asked →
      IsTurningAt (engine_at_rx x new) (at_rx x s) (trace ++ (events ++ withheld w last)) last)
  pub on : is_early new.stage ≡ false → is_late new.stage ≡ true
  pub ran : is_filling new.stage ≡ true → is_calm w (before ++ events) ≡ false
  pub held : is_withheld w last ≡ is_held new
  pub halts : (k : Kind) → last ≡ TurnOver k → IsHalt k
  pub calm : next ≡ false → is_calm w before ≡ true → is_calm w events ≡ true
  pub sent : is_calm w (before ++ events) ≡ false → is_filling new.stage ≡ false →
      (is_calm w before ≡ false → is_filling old.stage ≡ false → rx ≡ old.state.rx_index) → rx_after ≡ new.state.rx_index
  pub unsent : is_calm w (before ++ events) ≡ true → rx_after ≡ rx

-- ---- a step

-- What these asks do.
abbrev pub did_in : List Ask → List ℕ → List Event
did_in [] lent = []
did_in (a ∷ more) lent = did_by a lent ++ did_in more lent

-- ---- the calls

-- The first word of a slot in the tx ring's page, and its place.
abbrev pub at_word : ℕ → ℕ
at_word i = 16 + 3 * (i % 256)

abbrev pub slot_at : ℕ → ℕ → Place
slot_at tx i = page_word tx (at_word i)

-- Slots are asked for ahead: those that are shown, up to `most` and 16. At the ring's end it takes two ops.
abbrev pub ahead_ops : ℕ → ℕ → ℕ → List HostOp
ahead_ops tx i n =
    if nat_le (i % 256 + n) 256 then op_of (ReadAsk (slot_at tx i) (3 * n)) ∷ []
    else op_of (ReadAsk (slot_at tx i) (784 - at_word i)) ∷
    record (op_of (ReadAsk (slot_at tx 0) (3 * n - (784 - at_word i)))) { lent = 784 - at_word i } ∷ []
