-- For proofs: no claim rests on this file.
-- The loop of a host over a bus.
use Rattle.std.specs.Prelude.{ℕ, ◌≡◌, ◌<◌, ◌≤◌, ◌+◌, ◌++◌, List, Option, None, Some, length, map}
use Rattle.bpf_note.specs.declared.op.Op.{Op as Operation}
use Rattle.xdp_program.specs.Tallies.{Went}
use Rattle.xen_page.specs.Access.{Performs}
use Rattle.xen_page.specs.declared.access.Access.{Access}
use Rattle.xen_steps.specs.Drive.{accesses, notices_in}
use Rattle.xen_steps.specs.Event.{Event}
use Rattle.xen_turns.specs.Drive.{labels}
use Rattle.xen_turns.specs.declared.state.State.{State}
use Rattle.xen_turns.specs.declared.wiring.Wiring.{Wiring}
use Rattle.xen_host.specs.Asks.{IsInPages, IsSized, did_by}
use Rattle.xen_host.specs.Buses.{HasRead, IsHeld, IsMade, IsNever, over_after}
use Rattle.xen_host.specs.Driving.{GoesOn, Task, delivery, turn, wait}
use Rattle.xen_host.specs.EngineAt.{EngineAt}
use Rattle.xen_host.specs.Hosts.{Asked}
use Rattle.xen_host.specs.Stands.{Stands}
use Rattle.xen_host.specs.StepsAt.{BeginsAt, StepsAt}
use Rattle.xen_host.specs.declared.over_bus.Over.{Over}
use Rattle.xen_host.specs.declared.over_bus.OverBus.{OverBus}

-- How many accesses and notices events are.
abbrev pub effects_of : List Event → ℕ
effects_of t = length (accesses t) + notices_in t

-- The operations among events took the counters from one state to another.
abbrev pub Counted : {C : Type 0} → (Operation → C → C → Type 0) → List Event → C → C → Type 0
Counted did t before after = Went did before after (map Some (labels t))

-- How the counters may have changed.
abbrev pub KeepsAll : {C : Type 0} → Task → C → C → Type 0
KeepsAll turn before after = Unit {0}
KeepsAll (delivery o packet) before after = after ≡ before
KeepsAll (wait pages packet) before after = after ≡ before

-- What was done since a task began in this state: the bus went through the accesses, and the counters through the operations. What was
-- asked last is done too, but for its reads; before it there were at least n accesses and notices.
pub record IsGone {B C : Type 0} (log : B → Option (List Access)) (gives : B → Access → B → Type 0) (size : B → ℕ)
    (did : Operation → C → C → Type 0) (k : Task) (s : State) (w : Wiring) (bus : B) (before : C) (n : ℕ) (e : EngineAt) (counters : C)
    (host : OverBus B) : Type 0 where
  pub earlier : List Event
  pub last : Asked
  pub performed : Performs log gives bus (accesses (earlier ++ did_by last.ask last.words)) host.bus.now
  pub counted : Counted did (earlier ++ did_by last.ask last.words) before counters
  pub keeps : KeepsAll k before counters
  pub goes : GoesOn k e last.ask s (earlier ++ did_by last.ask last.words)
  pub stands : Stands e
  pub wide : IsSized last.ask
  pub held : IsHeld last.ask last.words
  pub inside : IsInPages (length w.vif.owners.now) last.ask
  pub over : host.over ≡ over_after last.ask None
  pub sized : size host.bus.now ≡ length w.vif.owners.now
  pub wires : e.wires ≡ w
  pub some : n ≤ effects_of earlier

-- A task is under way, of which fewer than `most` steps are left.
pub record IsGoing {B C : Type 0} (log : B → Option (List Access)) (gives : B → Access → B → Type 0) (size : B → ℕ)
    (did : Operation → C → C → Type 0) (serves : C → Type 0) (most : ℕ) (e : EngineAt) (counters : C) (host : OverBus B) : Type 0 where
  pub task : Task
  pub state : State
  pub bus : B
  pub before : C
  pub gone : IsGone log gives size did task state e.wires bus before 0 e counters host
  pub serving : (labels : List (Option Operation)) (after : C) → Went did before after labels → serves after
  pub few : (n : ℕ) (new : EngineAt) (after : C) (host_after : OverBus B) →
      IsGone log gives size did task state e.wires bus before n new after host_after → n < most

-- A turn begins over a bus.
abbrev pub BeginsOnBus : {B : Type 0} → (B → Option (List Access)) → (B → Access → B → Type 0) → (B → ℕ) → (old new : EngineAt) →
    (producer : ℕ) → (host host_after : OverBus B) → Type 0
BeginsOnBus {B} log gives size old new producer host host_after =
    BeginsAt (IsMade log gives size) (λ (h : OverBus B). IsNever h) old new producer host host_after

-- A step is taken over a bus.
abbrev pub StepsOnBus : {B C : Type 0} → (B → Option (List Access)) → (B → Access → B → Type 0) → (B → ℕ) → (Operation → C → C → Type 0) →
    (old new : EngineAt) → (before after : C) → (host host_after : OverBus B) → Type 0
StepsOnBus {B} log gives size did old new before after host host_after =
    StepsAt (IsMade log gives size) (λ (h : OverBus B). IsNever h) (HasRead log gives size) (Went did before after) (after ≡ before) old
    new host host_after

-- Whatever was under way has gone on by n steps.
abbrev pub HasGoneBy : {B C : Type 0} → (B → Option (List Access)) → (B → Access → B → Type 0) → (B → ℕ) → (Operation → C → C → Type 0) →
    ℕ → (old new : EngineAt) → (before after : C) → (host host_after : OverBus B) → Type 0
HasGoneBy {B} {C} log gives size did n old new before after host host_after =
    (k : Task) (s : State) (bus : B) (from : C) → IsGone log gives size did k s old.wires bus from 0 old before host →
    IsGone log gives size did k s old.wires bus from n new after host_after

-- And it is over.
abbrev pub HasGoneOn : {B C : Type 0} → (B → Option (List Access)) → (B → Access → B → Type 0) → (B → ℕ) → (Operation → C → C → Type 0) →
    (old new : EngineAt) → (before after : C) → (host host_after : OverBus B) → Over → Type 0
HasGoneOn log gives size did old new before after host host_after what =
    (n : ℕ) × HasGoneBy log gives size did n old new before after host host_after × (host_after.over ≡ Some what)
