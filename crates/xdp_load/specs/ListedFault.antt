-- For proofs: no claim rests on this file.
-- Of which list there are no rows.
use Rattle.std.specs.Prelude.{ℕ, ◌≡◌, List, Option, Some, None}
use Rattle.bpf_lists.specs.Refusals.{AreListed}
use Rattle.bpf_lists.specs.declared.list.MapList.{MapList}
use Rattle.bpf_lists.specs.declared.list.MapList.TheVariants.{Rows, Constants}
use Rattle.xdp_load.specs.Listed.{IsFirstUnlisted}
use Rattle.xdp_load.specs.Spot.{refused, row}
use Rattle.xdp_load.specs.SpotSeen.{refused_seen}
use Rattle.xdp_load.specs.declared.fault.Fault.TheVariants as fault
use Rattle.xdp_load.specs.declared.fault.LoadError.{LoadError}
use Rattle.xdp_load.specs.declared.fault.LoadError.TheVariants as error
use Rattle.xdp_load.specs.declared.key.Key.TheVariants as key

-- a list is one that a map can have, if there is one
abbrev pub IsListed : Option MapList → Type 0
IsListed None = Unit {0}
IsListed (Some (Rows rows)) = AreListed rows.kind rows.keys
IsListed (Some (Constants bytes)) = Unit {0}

-- memory ran out, or the list of map n is none
abbrev pub IsUnlistedError : ℕ → Option MapList → LoadError → Type 0
IsUnlistedError n list error.Memory = Unit {0}
IsUnlistedError n list (error.Refused r) = (refused_seen r ≡ refused fault.Rows (row key.Rows n)) × (IsListed list → ⊥)

-- memory ran out, or this is the first list that is none
abbrev pub IsListError : List (Option MapList) → LoadError → Type 0
IsListError lists error.Memory = Unit {0}
IsListError lists (error.Refused r) = (n : ℕ) × (refused_seen r ≡ refused fault.Rows (row key.Rows n)) × IsFirstUnlisted lists n
