-- Stated: claims rest on this file.
-- A log with room for a number of accesses.
use Rattle.std.specs.Prelude.{ℕ, List, [], ◌∷◌, ◌++◌, length, Bool, true, false, nat_lt, Option, Some, None, if◌then◌else◌}
use Rattle.xen_page.specs.declared.access.Access.{Access}

-- The first accesses, the room for them, and whether one was left out.
pub record Logged : Type 0 where
  pub kept : List Access
  pub room : ℕ
  pub full : Bool

abbrev pub empty_log : ℕ → Logged
empty_log room = record { kept = []; room = room; full = false }

-- An access is kept if there is room, and left out otherwise.
abbrev pub noted : Logged → Access → Logged
noted log access =
    if nat_lt (length log.kept) log.room
    then record log { kept = log.kept ++ access ∷ [] }
    else record log { full = true }

-- What is reported: all accesses so far, as long as none was left out.
abbrev pub told : Logged → Option (List Access)
told log = if log.full then None else Some log.kept
