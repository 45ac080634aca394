-- Stated: claims rest on this file.
-- A queue's share in counters that it has with other queues.
use Rattle.std.proofs.Props.{props}
use Rattle.std.specs.Prelude.{◌≡◌, None, Option, Some}
use Rattle.std.specs.Arc.{arc_value}
use Rattle.xen_host.specs.declared.sharing.Share.{Share}
use Rattle.xen_host.specs.declared.wires.OwnedWiring.{OwnedWiring}

-- If a queue shares counters, they are of its program's maps.
abbrev pub IsSharedBy : OwnedWiring → Option Share → Type 0
IsSharedBy w None = Unit {0}
IsSharedBy w (Some s) = (arc_value s.counters).shapes ≡ w.program.shapes

pub IsSharedBy-prop : (w : OwnedWiring) (s : Option Share) → IsProp (IsSharedBy w s)
IsSharedBy-prop w None = hlevel props
IsSharedBy-prop w (Some s) = hlevel props
