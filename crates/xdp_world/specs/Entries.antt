-- Stated: claims rest on this file.
-- The list of entries, one a step, and what each queue has of it.
use Rattle.std.specs.Prelude.{ℕ, ◌≡◌, List, [], ◌∷◌, ◌++◌, Option, Some, None, if◌then◌else◌, ◌==◌}
use Rattle.bpf_note.specs.declared.op.Op.{Op}
use Rattle.xen_turns.specs.Drive.{label_of}
use Rattle.xen_steps.specs.Event.{Event, Read, Write, Instr, Load, Add, Notify}

-- a step: which queue, what a read would be answered, and the event, if the queue hadn't halted
pub record Entry : Type 0 where
  pub queue : ℕ
  pub answer : ℕ
  pub event : Option Event

abbrev pub listed : Option Event → List Event
listed None = []
listed (Some e) = e ∷ []

-- the events of a queue
abbrev pub events_of : ℕ → List Entry → List Event
events_of q [] = []
events_of q (e ∷ es) = (if e.queue == q then listed e.event else []) ++ events_of q es

-- the steps
abbrev pub steps_of : List Entry → List (ℕ × ℕ)
steps_of [] = []
steps_of (e ∷ es) = (e.queue, e.answer) ∷ steps_of es

abbrev pub tagged : ℕ → List Op → List (ℕ × Op)
tagged q [] = []
tagged q (o ∷ os) = (q, o) ∷ tagged q os

abbrev pub ops_of : Option Event → List Op
ops_of None = []
ops_of (Some e) = label_of e

-- the loads and adds in order, with their queues
abbrev pub history : List Entry → List (ℕ × Op)
history [] = []
history (e ∷ es) = tagged e.queue (ops_of e.event) ++ history es

-- a read is answered by what the step says
abbrev pub Serves : Event → ℕ → Type 0
Serves (Read at a) answer = a ≡ answer
Serves (Write at v) answer = Unit {0}
Serves Instr answer = Unit {0}
Serves (Load m k j v) answer = Unit {0}
Serves (Add m k j delta old) answer = Unit {0}
Serves (Notify p) answer = Unit {0}

abbrev pub ServesEntry : Option Event → ℕ → Type 0
ServesEntry None answer = Unit {0}
ServesEntry (Some e) answer = Serves e answer

abbrev pub AllServe : List Entry → Type 0
AllServe [] = Unit {0}
AllServe (e ∷ es) = ServesEntry e.event e.answer × AllServe es
