-- Stated: claims rest on this file.
-- What one step does to one queue and the counters.
use Rattle.std.specs.Prelude.{ℕ, ◌≡◌, ◌≢◌, ◌+◌, ◌%◌, ◌^◌, List, [], ◌∷◌, Option, Some, None}
use Rattle.bpf_maps.specs.Seats.{TotalsView, total_at}
use Rattle.bpf_note.specs.Shape.{IsCounter}
use Rattle.bpf_note.specs.declared.op.Op.{Op}
use Rattle.bpf_note.specs.declared.op.Op.TheVariants as op
use Rattle.xen_steps.specs.Drive.{Goes}
use Rattle.xen_turns.specs.Drive.{label_of}
use Rattle.xen_steps.specs.Event.{Event}
use Rattle.xen_back.specs.Queues.{rest, state_of, wiring_of, IsReady}
use Rattle.xen_steps.specs.Steps.{Steps, done, want_of}
use Rattle.xen_turns.specs.Turned.{Ending, Turned}
use Rattle.xen_back.specs.declared.queue.Queue.{Queue}
use Rattle.xen_steps.specs.declared.want.Want.TheVariants as want
use Rattle.xdp_world.specs.Entries.{Serves}
use Rattle.xdp_world.specs.Keeping.{Keeps}
use Rattle.xdp_world.specs.declared.kept.Kept.{Kept}

abbrev pub op_list : Option Op → List Op
op_list None = []
op_list (Some o) = o ∷ []

abbrev pub kept_list : Option Kept → List Kept
kept_list None = []
kept_list (Some k) = k ∷ []

-- An operation found its counter's number, and an add adds to it alone.
abbrev pub Counts : TotalsView → Option Op → TotalsView → Type 0
Counts c None d = d ≡ c
Counts c (Some (op.Load m k j v)) d = IsCounter c.shapes m k j × (v ≡ total_at c m k j) × (d ≡ c)
Counts c (Some (op.Add m k j delta old)) d =
    IsCounter c.shapes m k j × (old ≡ total_at c m k j) × (total_at d m k j ≡ (old + delta) % 2 ^ 64)
    × ((a b e : ℕ) → IsCounter c.shapes a b e → ¬ ((a ≡ m) × (b ≡ k) × (e ≡ j)) → total_at d a b e ≡ total_at c a b e)

-- The turn goes on, or it is over and kept, and the next begins.
abbrev pub Settles : Queue → Queue → Option Kept → Type 0
Settles old new None = (want_of (rest old) ≢ want.Done) × (rest new ≡ rest old) × (state_of new ≡ state_of old)
Settles old new (Some k) = (u : Turned) × (rest old ≡ done (state_of new, u)) × Keeps u k × IsReady new

-- What remains goes on after an event, or the turn is over and kept, and the next begins.
abbrev pub Comes : Queue → Steps Ending → Queue → Option Kept → Type 0
Comes old m new None = (want_of m ≢ want.Done) × (rest new ≡ m) × (state_of new ≡ state_of old)
Comes old m new (Some k) = (u : Turned) × (m ≡ done (state_of new, u)) × Keeps u k × IsReady new

pub record Happens (old new : Queue) (c d : TotalsView) (answer : ℕ) (op : Option Op) (kept : Option Kept) : Type 0 where
  pub event : Event
  pub mid : Steps Ending
  pub goes : Goes (rest old) event mid
  pub serves : Serves event answer
  pub label : label_of event ≡ op_list op
  pub counts : Counts c op d
  pub comes : Comes old mid new kept

-- A queue that has halted does nothing.
pub record Rests (old new : Queue) (c d : TotalsView) : Type 0 where
  pub rest : rest new ≡ rest old
  pub state : state_of new ≡ state_of old
  pub counters : d ≡ c

-- What a step with this event, or with none if it has halted, does to a queue.
abbrev pub Moved : ℕ → Queue → Option Event → Queue → Type 0
Moved answer old None new = (want_of (rest old) ≡ want.Done) × (rest new ≡ rest old) × (wiring_of new ≡ wiring_of old)
Moved answer old (Some e) new =
    (m : Steps Ending) × (kept : Option Kept) × Goes (rest old) e m × Serves e answer × Comes old m new kept ×
    (wiring_of new ≡ wiring_of old)

-- What such a step does to a queue, with the turn that was over by it.
abbrev pub MovedBy : ℕ → Queue → Option Event → Option Kept → Queue → Type 0
MovedBy answer old None kept new =
    (want_of (rest old) ≡ want.Done) × (rest new ≡ rest old) × (state_of new ≡ state_of old) × (wiring_of new ≡ wiring_of old) ×
    (kept ≡ None)
MovedBy answer old (Some e) kept new =
    (m : Steps Ending) × Goes (rest old) e m × Serves e answer × Comes old m new kept × (wiring_of new ≡ wiring_of old)
