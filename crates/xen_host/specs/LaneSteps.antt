-- For proofs: no claim rests on this file.
-- What one of several turns does: how it begins at its first slot, and how it goes on in a step.
use Rattle.std.specs.Prelude.{ℕ, ◌≡◌, ◌≢◌, ◌<◌, ◌≤◌, ◌+◌, ◌^◌, ◌⊎◌, Bool, true, false, ◌||◌, List, [], ◌∷◌, ◌++◌, Ok, Option, None, Some, length, map, nat_lt, take, drop}
use Rattle.bpf_note.specs.declared.op.Op.{Op as Operation}
use Rattle.xen_netif.specs.Chain.{Slot}
use Rattle.xen_netif.specs.Segments.{offered_fragments}
use Rattle.xen_netif.specs.Standing.{standing}
use Rattle.xen_netif.specs.declared.chain.ChainState.TheVariants.{Complete}
use Rattle.xen_steps.specs.Drive.{LedBy}
use Rattle.xen_steps.specs.Event.{Event}
use Rattle.xen_steps.specs.Pages.{AreWords}
use Rattle.xen_steps.specs.Places.{add32, available}
use Rattle.xen_steps.specs.Steps.{Runs, Steps, bind}
use Rattle.xen_turns.specs.Program.{event_of}
use Rattle.xen_turns.specs.Rest.{fragment_at}
use Rattle.xen_turns.specs.Tree.{after_chain, after_look, after_scan, halted, read_slots, whole_turn}
use Rattle.xen_turns.specs.Turned.{Ending}
use Rattle.xen_turns.specs.declared.state.State.{State}
use Rattle.xen_turns.specs.declared.turn.Halt.TheVariants as halt
use Rattle.xen_turns.specs.declared.wiring.Wiring.{Wiring}
use Rattle.xen_host.specs.Asks.{AllInPages, AllSized, Ask, TakeNone, WordsStay, did_all, did_by, needs_no_answer, read_by}
use Rattle.xen_host.specs.Early.{StaysEarly, at_rx, engine_at_rx, is_early, is_late}
use Rattle.xen_host.specs.EarlySteps.{is_answering, is_done}
use Rattle.xen_host.specs.EngineAt.{EngineAt, WorkAt, engine_at}
use Rattle.xen_host.specs.Fed.{fed}
use Rattle.xen_host.specs.LaneHosts.{lane_op_at, said_by}
pub use Rattle.xen_host.specs.Joined.{slot_at, slot_reads}
use Rattle.xen_host.specs.Lanes.{EndsAt, rest_of}
use Rattle.xen_host.specs.Quiet.{Calm, Halts, Within}
use Rattle.xen_host.specs.Rest.{offload_after, reads_in, rest_in}
use Rattle.xen_host.specs.Stands.{Stands}
use Rattle.xen_host.specs.Told.{IsToldAt}
use Rattle.xen_host.specs.UnderWay.{IsTurningAt, TurnGoesAt}
use Rattle.xen_host.specs.declared.gathering.Gathered.{Gathered}
use Rattle.xen_host.specs.declared.gathering.Gathered.TheVariants as gathered
use Rattle.xen_host.specs.declared.lane.Lane.{Lane}
use Rattle.xen_host.specs.declared.lane.Next.{Next}
use Rattle.xen_host.specs.declared.lane.Next.TheVariants as next
use Rattle.xen_host.specs.declared.lane_host.Ahead.{Ahead}
use Rattle.xen_host.specs.declared.lane_host.LaneHost.{LaneHost}
use Rattle.xen_host.specs.declared.op.HostOp.{HostOp}
use Rattle.xen_host.specs.declared.stage.Stage.{Stage}
use Rattle.xen_host.specs.declared.stage.Stage.TheVariants as stage

-- One of the turns, with what it is wired to.
abbrev pub lane_at : Wiring → Lane → EngineAt
lane_at w l = engine_at w l.packet l.engine

-- Its ops and words are the same loans.
abbrev pub IsSameLane : LaneHost → LaneHost → Type 0
IsSameLane old new = (new.ops.ghost_name ≡ old.ops.ghost_name) × (new.words.ghost_name ≡ old.words.ghost_name)

-- All but what its host says, and how much it may, stays.
pub record KeepsLoans (old new : LaneHost) : Type 0 where
  pub own : new.own ≡ old.own
  pub tx : new.tx ≡ old.tx
  pub room : length new.ops.now ≡ length old.ops.now
  pub width : length new.words.now ≡ length old.words.now
  pub ops : new.ops.ghost_name ≡ old.ops.ghost_name
  pub words : new.words.ghost_name ≡ old.words.ghost_name

-- How many are answered, from the first on, where the k-th has come to this.
abbrev pub answered_by : Next → (k answered : ℕ) → ℕ
answered_by next.Goes k answered = answered
answered_by next.Held k answered = k + 1
answered_by next.Sends k answered = answered

-- ---- what is asked

-- These asks stand behind the first `count` ops, but for those that are kept. Of the lent words only its own page changes.
pub record LaneSaid (tx own : ℕ) (all : List Ask) (ops ops_after : List HostOp) (count count_after : ℕ) (lent lent_after : List ℕ) : Type 0 where
  pub filled : ops_after ≡ take count ops ++ (map (λ a. lane_op_at own a) (said_by tx all) ++ drop count_after ops)
  pub counted : count_after ≡ count + length (said_by tx all)
  pub front : take own lent_after ≡ take own lent
  pub behind : drop (own + 1024) lent_after ≡ drop (own + 1024) lent
  pub words : WordsStay all (drop own lent) (drop own lent_after)
  pub width : length lent_after ≡ length lent

-- What it asked: all but the last take no answer, and as much as there was room for, up to an ask that a step can't go on after.
pub record LaneAsks (w : Wiring) (own limit : ℕ) (g : Stage) (first : List Ask) (last : Ask) (ops ops_after : List HostOp) (count count_after : ℕ)
    (lent lent_after : List ℕ) : Type 0 where
  pub take_none : TakeNone first
  pub said : LaneSaid w.vif.tx own (first ++ last ∷ []) ops ops_after count count_after lent lent_after
  pub stops : (count_after ≡ limit) ⊎ (needs_no_answer last ≡ false)
  pub sized : AllSized (first ++ last ∷ [])
  pub told : IsToldAt w.vif.table.now g last
  pub within : AllInPages (length w.vif.owners.now) (first ++ last ∷ [])

-- What it wrote and gave notice of, by the lent words behind it.
abbrev pub did_own : ℕ → List Ask → Ask → List ℕ → List Event
did_own own first last lent = did_all first (drop own lent) ++ did_by last (drop own lent)

-- ---- a step

-- Its own words answered what it asked last, the program ran as far as it had to, and it asked for what comes then. With the events of all
-- this its turn goes on, or is over.
pub record LaneGoes (went : List (Option Operation) → Type 0) (own limit : ℕ) (old new : EngineAt) (ops ops_after : List HostOp)
    (count count_after : ℕ) (lent lent_after : List ℕ) : Type 0 where
  pub first : List Ask
  pub last : Ask
  pub asks : LaneAsks old.wires own limit new.stage first last ops ops_after count count_after lent lent_after
  pub wires : new.wires ≡ old.wires
  pub offload : new.offload ≡ offload_after old.wires.offers old.stage old.work (drop own lent) old.offload
  pub labels : List (Option Operation)
  pub history : went labels
  pub turn : (s : State) (trace : List Event) (asked : Ask) → IsTurningAt old s trace asked →
      TurnGoesAt new last s (trace ++ (read_by asked (drop own lent) ++ (map event_of labels ++ did_own own first last lent_after)))
  pub below : AreWords (take (reads_in old.stage) (drop own lent))
  pub all : length (take (reads_in old.stage) (drop own lent)) ≡ reads_in old.stage
  -- before its program's run what is left has no use of the rx index
  pub early : is_early old.stage ≡ true → is_early new.stage ≡ true →
      StaysEarly (λ s. fed (rest_in old.wires s old.stage old.work) (take (reads_in old.stage) (drop own lent))) old.state new
  pub on : is_early old.stage ≡ true → is_early new.stage ≡ false → is_late new.stage ≡ true
  pub rx : is_early old.stage ≡ true → new.state.rx_index ≡ old.state.rx_index
  pub answers : is_answering old.stage ≡ true → new.state.rx_index ≡ old.state.rx_index
  pub late : is_late old.stage ≡ true → is_done old.stage ≡ false → is_late new.stage ≡ true

-- Nothing is asked, and nothing has changed.
pub record LaneWaits (went : List (Option Operation) → Type 0) (old new : EngineAt) (ops ops_after : List HostOp) (count count_after : ℕ)
    (lent lent_after : List ℕ) : Type 0 where
  pub kept : new ≡ old
  pub ops_are : ops_after ≡ ops
  pub none : count_after ≡ count
  pub words : lent_after ≡ lent
  pub history : went []

-- It is neither answered, but for the push, nor over.
abbrev pub is_going : Stage → Bool
is_going stage.Ready = false
is_going stage.Several = false
is_going stage.Push = false
is_going g = true

-- A turn whose answer may be followed by the program's run waits until it is the next, and one that is answered or has halted is done.
abbrev pub goes_at : Bool → Stage → WorkAt → Bool
goes_at next stage.Ready b = false
goes_at next stage.Several b = false
goes_at next stage.Push b = false
goes_at next (stage.Entry i at) b = nat_lt 0 (fragment_at b.fragments i).size || next
goes_at next (stage.Page i f frame) b = nat_lt i (length b.fragments) || next
goes_at next g b = true

abbrev pub goes_on : Bool → EngineAt → Bool
goes_on next e = goes_at next e.stage e.work

-- Its program may run in a step from here.
abbrev pub may_run : Stage → Bool
may_run (stage.Entry i at) = true
may_run (stage.Page i f frame) = true
may_run g = false

-- It begins to use rx slots at this index, before it may run.
abbrev pub indexed_at : ℕ → Stage → State → State
indexed_at x (stage.Entry i at) s = record s { rx_index = x }
indexed_at x (stage.Page i f frame) s = record s { rx_index = x }
indexed_at x g s = s

abbrev pub indexed : ℕ → EngineAt → EngineAt
indexed x e = record e { state = indexed_at x e.stage e.state }

-- Its packet is on its way back.
abbrev pub sends_at : Stage → Bool
sends_at (stage.Fill f p) = true
sends_at g = false

-- The index behind the rx slots that it has used.
abbrev pub index_behind : ℕ → Stage → State → ℕ
index_behind x (stage.Fill f p) s = s.rx_index
index_behind x g s = x

-- A step of one of several turns, which is the next to run or not.
pub record LaneSteps (went : List (Option Operation) → Type 0) (next : Bool) (rx rx_after : ℕ) (own limit : ℕ) (old new : EngineAt)
    (ops ops_after : List HostOp) (count count_after : ℕ) (lent lent_after : List ℕ) : Type 0 where
  pub waits : goes_on next old ≡ false → LaneWaits went old new ops ops_after count count_after lent lent_after
  pub goes : goes_on next old ≡ true → LaneGoes went own limit (indexed rx old) new ops ops_after count count_after lent lent_after
  pub index : rx_after ≡ index_behind rx old.stage new.state

-- So it is whether it is the next or not, if it stands as it has to.
pub record LaneStepped (went : List (Option Operation) → Type 0) (rx rx_after : ℕ) (own limit : ℕ) (old new : EngineAt) (ops ops_after : List HostOp)
    (count count_after : ℕ) (lent lent_after : List ℕ) : Type 0 where
  pub by : (next : Bool) → Stands old → LaneSteps went next rx rx_after own limit old new ops ops_after count count_after lent lent_after

-- ---- its beginning

-- With the reads of n slots, the first of which is the i-th of those that were read ahead, the slots of a turn's chain are read up to there.
abbrev pub ScansTo : State → List ℕ → ℕ → ℕ → (Wiring → ℕ → Steps Ending) → Type 0
ScansTo s lent i n left = (w : Wiring) (more : ℕ) →
    LedBy (bind (read_slots w s.tx_index (n + more) []) (after_scan w s)) (slot_reads w s.tx_index lent i n) (left w more)

-- The state in which a turn begins with the next slot that was read ahead.
abbrev pub begins_at : Ahead → ℕ → State
begins_at ahead x = record { tx_index = add32 ahead.start ahead.taken; rx_index = x; halt = None }

-- A producer shows so many slots from an index on.
abbrev pub IsShown : ℕ → ℕ → Type 0
IsShown t n = (p : ℕ) × (p < 2 ^ 32) × (available t p ≡ Some n)

-- What slots that were read ahead have come to, from the i-th on: some of them, or all before `to`, are a turn's chain, or the last has a
-- fault, or the chain wants more.
abbrev pub HasGathered : State → List ℕ → (i to : ℕ) → List Slot → Gathered → Type 0
HasGathered s lent i to chain (gathered.Whole end) = (n : ℕ) × (0 < n) × (i + n ≡ end) × (end ≤ to) × (length chain ≡ n) ×
    (standing chain ≡ Some (Ok Complete)) × ScansTo s lent i n (λ w more. after_chain w s chain (offered_fragments w.offers chain))
HasGathered s lent i to chain (gathered.Broken fault end) = (n : ℕ) × (0 < n) × (i + n ≡ end) × (end ≤ to) ×
    ScansTo s lent i n (λ w more. halted s (halt.Chain fault))
HasGathered s lent i to chain gathered.Wanting = (n : ℕ) × (0 < n) × (i + n ≡ to) × (length chain ≡ n) × (standing chain ≢ Some (Ok Complete)) ×
    ScansTo s lent i n (λ w more. bind (read_slots w s.tx_index more chain) (after_scan w s))

-- So many slots from this index on are answered at least, if it doesn't halt, and no more than a ring has.
abbrev pub AnswersSome : (t few : ℕ) → Steps Ending → Type 0
AnswersSome t few s = (trace : List Event) (r : Ending) → Runs s trace r → r.0.halt ≡ None →
    (m : ℕ) × (few ≤ m) × (m ≤ 256) × (r.0.tx_index ≡ add32 t m)

-- A turn has begun in this state, after a look that showed `shown` slots, with the i-th and those after it of the `ahead` slots that were
-- read ahead. Those that it didn't take are for the turns behind it.
pub record LaneBegins (went : List (Option Operation) → Type 0) (s : State) (shown i ahead taken own limit : ℕ) (new : EngineAt)
    (ops ops_after : List HostOp) (count count_after : ℕ) (lent lent_after : List ℕ) : Type 0 where
  pub first : List Ask
  pub last : Ask
  pub asks : LaneAsks new.wires own limit new.stage first last ops ops_after count count_after lent lent_after
  pub slots : ℕ
  pub some : 0 < slots
  pub taken_is : taken ≡ i + slots
  pub few : taken ≤ ahead
  pub ends : (taken ≡ ahead) ⊎ EndsAt (add32 s.tx_index slots) (rest_of new)
  pub past : AnswersSome s.tx_index slots (rest_of new)
  pub each : is_early new.stage ≡ true → (x : ℕ) → ((taken ≡ ahead) ⊎ EndsAt (add32 s.tx_index slots) (rest_of (engine_at_rx x new))) ×
      AnswersSome s.tx_index slots (rest_of (engine_at_rx x new))
  -- what is left behind the slots makes nothing but responses before it reads, and is over before that only if it has halted
  pub left : Steps Ending
  pub gathered : LedBy (bind (read_slots new.wires s.tx_index shown []) (after_scan new.wires s)) (slot_reads new.wires s.tx_index lent i slots) left
  pub quiet : Calm new.wires 0 left
  pub halting : Within Halts 0 left
  pub labels : List (Option Operation)
  pub history : went labels
  pub turn : (look : List Event) → LedBy (whole_turn new.wires s) look (after_look new.wires s (Some shown)) →
      TurnGoesAt new last s (look ++ (slot_reads new.wires s.tx_index lent i slots ++ (map event_of labels ++ did_own own first last lent_after)))
  pub state : is_early new.stage ≡ true → new.state ≡ s
  pub early : is_early new.stage ≡ true → (x : ℕ) → LedBy (bind (read_slots new.wires s.tx_index shown []) (after_scan new.wires (at_rx x s)))
      (slot_reads new.wires s.tx_index lent i slots) (rest_in new.wires (at_rx x s) new.stage new.work)
  pub on : is_early new.stage ≡ false → is_late new.stage ≡ true
  pub rx : new.state.rx_index ≡ s.rx_index
