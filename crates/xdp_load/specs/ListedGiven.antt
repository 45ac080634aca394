-- Stated: claims rest on this file.
-- What a setup with lists stands for, and when there is none.
use Rattle.std.specs.Prelude.{◌≡◌, ◌⊎◌, Result, Err}
use Rattle.xdp_load.specs.Listed.{IsRowsFault, ListedView}
use Rattle.xdp_load.specs.SetupSeen.{setup_view}
use Rattle.xdp_load.specs.Spot.{Refused}
use Rattle.xdp_load.specs.SpotSeen.{refused_seen}
use Rattle.xdp_load.specs.declared.fault.LoadError.{LoadError}
use Rattle.xdp_load.specs.declared.fault.LoadError.TheVariants as error
use Rattle.xdp_load.specs.declared.listed.Listed.{Listed}

abbrev pub listed_view : Listed → ListedView
listed_view x = record { setup = setup_view x.setup; lists = x.lists.items }

-- memory ran out, or reading gives this fault and its spot, or it gives a list that is none
abbrev pub IsListedError : Result ListedView Refused → LoadError → Type 0
IsListedError read error.Memory = Unit {0}
IsListedError read (error.Refused r) = (read ≡ Err (refused_seen r)) ⊎ IsRowsFault read (refused_seen r)
