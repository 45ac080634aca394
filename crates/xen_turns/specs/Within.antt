-- Stated: claims rest on this file.
-- What a queue may want: words of the frames, and counters of the maps.
use Rattle.std.specs.Prelude.{ℕ, ◌<◌, List, length, Option, Some, None, slice_get}
use Rattle.std.specs.Coded.{×_prop, Unit-prop, le_prop}
use Rattle.bpf_note.specs.Shape.{Shape, IsCounter, IsWithin as IsWithinMap}
use Rattle.xen_steps.specs.declared.want.Want.{Want}
use Rattle.xen_steps.specs.declared.want.Want.TheVariants as want
use Rattle.xen_steps.specs.Finish.{Finishes, Finishes-prop}
use Rattle.xen_steps.specs.Steps.{Steps}
use Rattle.xen_turns.specs.Tree.{whole_turn}
use Rattle.xen_turns.specs.Turned.{Ending}
use Rattle.xen_turns.specs.declared.state.State.{State}
use Rattle.xen_turns.specs.declared.wiring.Wiring.{Wiring}
use mathlib.Core.Path.{fun_ext}

-- The want's place is within the first `frames` frames, and its counter is one of the maps'.
abbrev pub IsWithin : ℕ → List Shape → Want → Type 0
IsWithin frames shapes (want.Read at) = (at.frame < frames) × (at.word < 1024)
IsWithin frames shapes (want.Write at v) = (at.frame < frames) × (at.word < 1024)
IsWithin frames shapes want.Instr = Unit {0}
IsWithin frames shapes (want.Load m k j) = IsCounter shapes m k j
IsWithin frames shapes (want.Add m k j delta) = IsCounter shapes m k j
IsWithin frames shapes (want.Notify p) = Unit {0}
IsWithin frames shapes want.Done = ⊥

-- What a queue that is wired so may want.
abbrev pub may_want : Wiring → Want → Type 0
may_want w = IsWithin (length w.vif.owners.now) w.program.now.shapes

counter-prop : (o : Option Shape) (k j : ℕ) → IsProp (IsWithinMap o k j)
counter-prop None k j = λ x y. absurd x
counter-prop (Some s) k j = ×_prop le_prop le_prop

pub IsWithin-prop : (frames : ℕ) (shapes : List Shape) (w : Want) → IsProp (IsWithin frames shapes w)
IsWithin-prop frames shapes (want.Read at) = ×_prop le_prop le_prop
IsWithin-prop frames shapes (want.Write at v) = ×_prop le_prop le_prop
IsWithin-prop frames shapes want.Instr = Unit-prop
IsWithin-prop frames shapes (want.Load m k j) = counter-prop (slice_get shapes m) k j
IsWithin-prop frames shapes (want.Add m k j delta) = counter-prop (slice_get shapes m) k j
IsWithin-prop frames shapes (want.Notify p) = Unit-prop
IsWithin-prop frames shapes want.Done = λ x y. absurd x

-- It comes to an end, whatever it is answered, and until then wants nothing outside the frames and the maps.
abbrev pub Completes : Wiring → Steps Ending → Type 0
Completes w s = Finishes (may_want w) s

pub Completes-prop : (w : Wiring) (s : Steps Ending) → IsProp (Completes w s)
Completes-prop w s = Finishes-prop (may_want w) (IsWithin-prop (length w.vif.owners.now) w.program.now.shapes) s

-- So does each turn, whatever state it begins in.
abbrev pub TurnsComplete : Wiring → Type 0
TurnsComplete w = (s : State) → Completes w (whole_turn w s)

pub TurnsComplete-prop : (w : Wiring) → IsProp (TurnsComplete w)
TurnsComplete-prop w = λ x y. fun_ext (λ (s : State). Completes-prop w (whole_turn w s) (x s) (y s))
