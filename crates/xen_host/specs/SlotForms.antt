-- Stated: claims rest on this file.
-- The forms in which the slots of a chain are held.
use Rattle.std.specs.Prelude.{◌≡◌, false, List, [], ◌∷◌}
use Rattle.xen_netif.specs.Chain.{Slot, extra_info, more_data}
use Rattle.xen_host.specs.declared.slots.SlotForm.{SlotForm}
use Rattle.xen_host.specs.declared.slots.SlotForm.TheVariants as form

-- The slots: none, the single one, or those of the chain.
abbrev pub slots_held : SlotForm → Slot → List Slot → List Slot
slots_held form.Empty single chain = []
slots_held form.Single single chain = single ∷ []
slots_held form.Chained single chain = chain

-- A slot that is held by itself is a whole chain.
abbrev pub IsWhole : SlotForm → Slot → Type 0
IsWhole form.Single single = (extra_info single ≡ false) × (more_data single ≡ false)
IsWhole f single = Unit {0}
