-- Stated: claims rest on this file.
-- What a handle of shared counters ends as, once what it holds was lent.
use Rattle.std.specs.Prelude.{Option, Some, refl, true}
use Rattle.std.specs.Borrow.{Fml, Lends, LendsIf, MutBor}
use Rattle.xen_host.specs.declared.sharing.SharedCounters.{SharedCounters}
use Rattle.xen_host.specs.contracts.sharing.SharedCounters.{the_row as held_row}
use Rattle.xdp_host.specs.declared.counters_handle.Slot.{Slot}
use Rattle.xdp_host.specs.declared.counters_handle.XdpCounters.{XdpCounters}
use Rattle.xdp_host.specs.contracts.counters_handle.Slot.{the_row as slot_row}
use Rattle.xdp_host.specs.contracts.counters_handle.XdpCounters.{the_row as handle_row}

-- the slot with something else in its box
abbrev pub slot_with : Slot → SharedCounters → Slot
slot_with s h = record s { held = Some h }

abbrev pub LendsSlot : MutBor Slot → MutBor SharedCounters → Fml
LendsSlot s r = Lends slot_row held_row s r (slot_with s.now)

-- a handle that holds this
abbrev pub handle_with : XdpCounters → SharedCounters → XdpCounters
handle_with s h = record { slot = slot_with s.slot h; live = true; agrees = ((λ _. refl), (λ _. refl)) }

-- the handle holds what was last written, or nothing if it held nothing
abbrev pub LendsHeld : MutBor XdpCounters → Option (MutBor SharedCounters) → Fml
LendsHeld s r = LendsIf handle_row held_row s r (handle_with s.now) s.now
