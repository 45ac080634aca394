-- Stated: claims rest on this file.
-- A bus that keeps the accesses of another.
use Rattle.std.specs.Prelude.{◌≡◌, List, [], ◌∷◌, Option}
use Rattle.xen_page.specs.Access.{Tells}
use Rattle.xen_page.specs.Log.{Logged, noted}
use Rattle.xen_page.specs.declared.access.Access.{Access}
use Rattle.xen_page.specs.declared.recorder.Recorder.{Recorder}

-- the bus inside
abbrev pub bus_of : {B : Type 0} → Recorder B → B
bus_of r = r.bus

abbrev pub log_of : {B : Type 0} → Recorder B → Logged
log_of r = r.log

-- The access is one of the bus inside, and is noted with that bus's answer.
abbrev pub Records : {B : Type 0} → (B → Option (List Access)) → (B → Access → B → Type 0) →
    Recorder B → Access → Recorder B → Type 0
Records tells gives old access new =
    gives (bus_of old) access (bus_of new) ×
    Tells (tells (bus_of old)) (tells (bus_of new)) (access ∷ []) ×
    (log_of new ≡ noted (log_of old) access)
