-- Stated: claims rest on this file.
-- The grants of a front's buffers.
use Rattle.std.specs.Prelude.{ℕ, List, get_or, Option, Some, None}
use Rattle.xen_page.specs.Table.{entry_place}
use Rattle.xen_page.specs.declared.place.Place.{Place}
use Rattle.xen_buffers.specs.declared.wiring.GrantedPage.{GrantedPage}
use Rattle.xen_buffers.specs.declared.wiring.FrontWiring.{FrontWiring}

-- the buffer of an id
abbrev pub buffer : List GrantedPage → ℕ → GrantedPage
buffer buffers id = get_or buffers id (record { gref = 0; frame = 0 })

-- the place of the flags word of a buffer's grant; every buffer of a wired front has one
abbrev pub place_or : Option Place → Place
place_or (Some at) = at
place_or None = record { frame = 0; word = 0 }

abbrev pub grant_place : FrontWiring → GrantedPage → Place
grant_place w b = place_or (entry_place w.table.now b.gref)
