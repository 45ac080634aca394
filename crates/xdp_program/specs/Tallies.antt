-- Stated: claims rest on this file.
-- What operations make of counters, wherever these are: in words of the host's, or shared by threads.
use Rattle.std.specs.Prelude.{ℕ, ◌≡◌, ◌≤◌, ◌+◌, ◌++◌, ◌%◌, ◌^◌, List, [], ◌∷◌, Option, None, Some, length, slice_index, set}
use Rattle.bpf_note.specs.Shape.{Shape, IsCounter}
use Rattle.bpf_note.specs.declared.op.Op.{Op}
use Rattle.bpf_note.specs.declared.op.Op.TheVariants.{Load, Add}
use Rattle.bpf_maps.specs.Layout.{place_of, total}
use Rattle.bpf_maps.specs.Seats.{IsSeatOf, SeatView}
use Rattle.xdp_program.specs.declared.tallies.Seated.{Seated}
use Rattle.xdp_program.specs.declared.tallies.CounterWords.{CounterWords}

-- The operations of labels, one after another, take counters from one state to another. Labels without one leave them.
abbrev pub Went : {C : Type 0} → (Op → C → C → Type 0) → (before after : C) → List (Option Op) → Type 0
Went {C} did before after [] = before ≡ after
Went {C} did before after (None ∷ labels) = Went did before after labels
Went {C} did before after (Some op ∷ labels) = (mid : C) × did op before mid × Went did mid after labels

-- ---- words of the host's, which nobody else changes during a run

-- A load finds its counter's word. An add finds it, and leaves the sum modulo 2^64 there. Nothing else changes.
abbrev pub TakesWords : List Shape → Op → List ℕ → List ℕ → Type 0
TakesWords shapes (Load m k j v) before after =
    IsCounter shapes m k j × (v ≡ slice_index before (place_of shapes m k j)) × (after ≡ before)
TakesWords shapes (Add m k j delta old) before after =
    IsCounter shapes m k j × (old ≡ slice_index before (place_of shapes m k j))
    × (after ≡ set before (place_of shapes m k j) ((old + delta) % 2 ^ 64))

-- The words are the same loan.
abbrev pub DidInWords : List Shape → Op → CounterWords → CounterWords → Type 0
DidInWords shapes op before after =
    TakesWords shapes op before.words.now after.words.now × (after.words.ghost_name ≡ before.words.ghost_name)

-- There are words enough.
abbrev pub HasWords : List Shape → CounterWords → Type 0
HasWords shapes c = total shapes ≤ length c.words.now

-- ---- a seat at counters that threads share

-- The operations of labels.
abbrev pub operations_of : List (Option Op) → List Op
operations_of [] = []
operations_of (None ∷ labels) = operations_of labels
operations_of (Some op ∷ labels) = op ∷ operations_of labels

-- The seat's list grew by the operations of these labels, and by no others.
abbrev pub HasGrown : (before after : SeatView) → List (Option Op) → Type 0
HasGrown before after labels = after ≡ record before { ops = before.ops ++ operations_of labels }

-- The counters and the seat are the same loans, and the seat's list grew by this operation.
abbrev pub DidAtSeat : List Shape → Op → Seated → Seated → Type 0
DidAtSeat shapes op before after =
    (after.seat.now ≡ record before.seat.now { ops = before.seat.now.ops ++ op ∷ [] }) ×
    (after.seat.ghost_name ≡ before.seat.ghost_name) × (after.counters ≡ before.counters)

-- The counters are of maps of these shapes, and the seat is theirs.
abbrev pub IsSeated : List Shape → Seated → Type 0
IsSeated shapes c = (c.counters.now.shapes ≡ shapes) × IsSeatOf c.counters.now c.seat.now
