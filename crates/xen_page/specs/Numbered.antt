-- Stated: claims rest on this file.
-- The words of all frames, numbered from 0 on, one frame after another.
use Rattle.std.specs.Prelude.{ℕ, ◌+◌, ◌*◌, ◌/◌, ◌%◌}
use Rattle.xen_page.specs.declared.place.Place.{Place}

-- the number of the word at a place
abbrev pub index_of : Place → ℕ
index_of at = at.frame * 1024 + at.word

-- the place of the word of a number
abbrev pub place_at : ℕ → Place
place_at index = record { frame = index / 1024; word = index % 1024 }
