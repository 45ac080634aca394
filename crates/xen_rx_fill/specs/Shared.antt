-- Stated: claims rest on this file.
-- Parts of a trace that copying a packet in and sending it back have in common.
use Rattle.std.specs.Prelude.{ℕ, ◌≡◌, ◌<◌, ◌^◌, Bool, List, [], ◌∷◌, Some, None, Result, Err, if◌then◌else◌}
use Rattle.xen_page.specs.Entry.{entry_of}
use Rattle.xen_page.specs.Grant.{checked}
use Rattle.xen_page.specs.Mapping.{frame_place}
use Rattle.xen_page.specs.Table.{entry_place}
use Rattle.xen_page.specs.declared.fault.GrantFault.{GrantFault}
use Rattle.xen_page.specs.declared.fault.GrantFault.TheVariants.{BadGntref}
use Rattle.xen_page.specs.declared.place.Place.{Place}
use Rattle.xen_page.specs.declared.entry.Rights.{Rights}
use Rattle.xen_steps.specs.Event.{Event, Read, Notify}
use Rattle.xen_rx_fill.specs.declared.vif.Vif.{Vif}

-- The two words of a grant's entry, and its check; no access if the reference is outside the table.
pub data IsEntry (w : Vif) (rights : Rights) (gref : ℕ) : List Event → Result ℕ GrantFault → Type 0 where
  outside : entry_place w.table.now gref ≡ None → IsEntry w rights gref [] (Err BadGntref)
  inside : (at : Place) (a b : ℕ) → entry_place w.table.now gref ≡ Some at → a < 2 ^ 32 → b < 2 ^ 32 →
      IsEntry w rights gref (Read at a ∷ Read (frame_place at) b ∷ []) (checked w.owners.now w.granter w.user (entry_of a b) rights)

-- the notice, if one is due
abbrev pub notices : Vif → Bool → List Event
notices w due = if due then Notify w.port ∷ [] else []
