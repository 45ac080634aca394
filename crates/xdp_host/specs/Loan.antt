-- Stated: claims rest on this file.
-- What a handle of a program ends as, once what it holds was lent.
use Rattle.std.specs.Prelude.{Option, Some, refl, true}
use Rattle.std.specs.Borrow.{Fml, Lends, LendsIf, MutBor}
use Rattle.xdp_host.specs.declared.loaded_program.LoadedProgram.{LoadedProgram}
use Rattle.xdp_host.specs.contracts.loaded_program.LoadedProgram.{the_row as held_row}
use Rattle.xdp_host.specs.declared.handle.Slot.{Slot}
use Rattle.xdp_host.specs.declared.handle.XdpProgram.{XdpProgram}
use Rattle.xdp_host.specs.contracts.handle.Slot.{the_row as slot_row}
use Rattle.xdp_host.specs.contracts.handle.XdpProgram.{the_row as handle_row}

-- the slot with something else in its box
abbrev pub slot_with : Slot → LoadedProgram → Slot
slot_with s h = record s { held = Some h }

abbrev pub LendsSlot : MutBor Slot → MutBor LoadedProgram → Fml
LendsSlot s r = Lends slot_row held_row s r (slot_with s.now)

-- a handle that holds this
abbrev pub handle_with : XdpProgram → LoadedProgram → XdpProgram
handle_with s h = record { slot = slot_with s.slot h; live = true; agrees = ((λ _. refl), (λ _. refl)) }

-- the handle holds what was last written, or nothing if it held nothing
abbrev pub LendsHeld : MutBor XdpProgram → Option (MutBor LoadedProgram) → Fml
LendsHeld s r = LendsIf handle_row held_row s r (handle_with s.now) s.now
