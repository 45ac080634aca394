-- Stated: claims rest on this file.
-- A whole turn over a bus and a seat.
use Rattle.std.specs.Prelude.{◌≡◌, List, [], ◌∷◌, ◌++◌, Option}
use Rattle.bpf_note.specs.declared.op.Op.{Op}
use Rattle.bpf_note.specs.declared.op.Op.TheVariants as op
use Rattle.xen_page.specs.Access.{Performs}
use Rattle.xen_page.specs.declared.access.Access.{Access}
use Rattle.xen_steps.specs.Drive.{LedBy, accesses}
use Rattle.xen_steps.specs.Event.{Event, Load, Add}
use Rattle.xen_steps.specs.Steps.{Steps}

-- The counter operation of an event.
abbrev pub label_of : Event → List Op
label_of (Load m k j v) = op.Load m k j v ∷ []
label_of (Add m k j delta old) = op.Add m k j delta old ∷ []
label_of e = []

abbrev pub labels : List Event → List Op
labels [] = []
labels (e ∷ t) = label_of e ++ labels t

-- What was done over a bus and a seat in going from one computation to another.
pub record Driven {A S : Type 0} (log : S → Option (List Access)) (gives : S → Access → S →
    Type 0) (s s' : Steps A) (bus bus' : S) (ops ops' : List Op) (t : List Event) : Type 0 where
  pub gone : LedBy s t s'
  pub performed : Performs log gives bus (accesses t) bus'
  pub grown : ops' ≡ ops ++ labels t
