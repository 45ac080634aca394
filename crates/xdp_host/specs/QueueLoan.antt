-- Stated: claims rest on this file.
-- What a handle of a queue ends as, once what it holds was lent.
use Rattle.std.specs.Prelude.{Option, Some, refl, true}
use Rattle.std.specs.Borrow.{Fml, Lends, LendsIf, MutBor}
use Rattle.xen_host.specs.declared.queue.Queue.{Queue}
use Rattle.xen_host.specs.contracts.queue.Queue.{the_row as held_row}
use Rattle.xdp_host.specs.declared.queue_handle.Slot.{Slot}
use Rattle.xdp_host.specs.declared.queue_handle.XdpQueue.{XdpQueue}
use Rattle.xdp_host.specs.contracts.queue_handle.Slot.{the_row as slot_row}
use Rattle.xdp_host.specs.contracts.queue_handle.XdpQueue.{the_row as handle_row}

-- the slot with something else in its box
abbrev pub slot_with : Slot → Queue → Slot
slot_with s h = record s { held = Some h }

abbrev pub LendsSlot : MutBor Slot → MutBor Queue → Fml
LendsSlot s r = Lends slot_row held_row s r (slot_with s.now)

-- a handle that holds this
abbrev pub handle_with : XdpQueue → Queue → XdpQueue
handle_with s h = record { slot = slot_with s.slot h; live = true; agrees = ((λ _. refl), (λ _. refl)) }

-- the handle holds what was last written, or nothing if it held nothing
abbrev pub LendsHeld : MutBor XdpQueue → Option (MutBor Queue) → Fml
LendsHeld s r = LendsIf handle_row held_row s r (handle_with s.now) s.now
