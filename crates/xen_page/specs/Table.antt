-- Stated: claims rest on this file.
-- A domain's grant table (grant_table.h): frames of 512 entries of two words each.
-- Rows worked by hand guard it: crates/xen_page_tests/src/tests/tables.rt.
use Rattle.std.specs.Prelude.{ℕ, ◌≤◌, ◌*◌, ◌/◌, ◌%◌, List, length, All, IsTrue, Option, Some, None, slice_get}
use Rattle.xen_page.specs.Grant.{owns}
use Rattle.xen_page.specs.declared.place.Place.{Place}

-- one to sixty-four frames, which exist and are the granter's
abbrev pub IsTable : List ℕ → ℕ → List ℕ → Type 0
IsTable owners granter frames =
    (1 ≤ length frames) × (length frames ≤ 64) × All (λ frame. IsTrue (owns owners granter frame)) frames

-- such a table of at most sixteen
abbrev pub IsSmallTable : List ℕ → ℕ → List ℕ → Type 0
IsSmallTable owners granter frames = (length frames ≤ 16) × IsTable owners granter frames

abbrev pub place_in : Option ℕ → ℕ → Option Place
place_in None gref = None
place_in (Some frame) gref = Some (record { frame = frame; word = 2 * (gref % 512) })

-- the place of the entry's flags word
abbrev pub entry_place : List ℕ → ℕ → Option Place
entry_place frames gref = place_in (slice_get frames (gref / 512)) gref
