-- Stated: claims rest on this file.
-- Reading a grant's entry, as a computation that asks.
use Rattle.std.specs.Prelude.{ℕ, Option, Some, None, Result, Err}
use Rattle.xen_page.specs.Entry.{entry_of}
use Rattle.xen_page.specs.Grant.{checked}
use Rattle.xen_page.specs.Mapping.{frame_place}
use Rattle.xen_page.specs.Table.{entry_place}
use Rattle.xen_page.specs.declared.entry.Rights.{Rights}
use Rattle.xen_page.specs.declared.fault.GrantFault.{GrantFault}
use Rattle.xen_page.specs.declared.fault.GrantFault.TheVariants.{BadGntref}
use Rattle.xen_page.specs.declared.place.Place.{Place}
use Rattle.xen_steps.specs.Steps.{Steps, done, ask}
use Rattle.xen_steps.specs.declared.want.Want.TheVariants as want
use Rattle.xen_rx_fill.specs.declared.vif.Vif.{Vif}

-- an entry's two words and their check; none are read if the reference is outside the table
abbrev pub entry_checked : Vif → Rights → Place → ℕ → Steps (Result ℕ GrantFault)
entry_checked w rights at a = ask (want.Read (frame_place at)) (λ b. done (checked w.owners.now w.granter w.user (entry_of a b) rights))

abbrev pub entry_at : Vif → Rights → Option Place → Steps (Result ℕ GrantFault)
entry_at w rights None = done (Err BadGntref)
entry_at w rights (Some at) = ask (want.Read at) (λ a. entry_checked w rights at a)

abbrev pub entry : Vif → Rights → ℕ → Steps (Result ℕ GrantFault)
entry w rights gref = entry_at w rights (entry_place w.table.now gref)
