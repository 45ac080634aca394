use Rattle.std.proofs.Common.{◌≡◌, ◌≤◌, ◌-◌, ◌++◌, List, ℕ, length}
use Rattle.xen_netif.specs.Copy.{bytes_from}
use Rattle.xen_steps.specs.Pages.{HasRoom}
use Rattle.xen_steps.specs.Places.{page_word}
use Rattle.xen_host.specs.Buses.{MayRead}
use Rattle.xen_host.proofs.over_bus.page_parts.Given as goal

abbrev pub invariant-loop-place : goal.invariant-loop-place
invariant-loop-place g l =
    record {
      up : l.from ≤ l.place;
      room : HasRoom (length (g.R.Room.held l.packet)) l.fragment l.place 0;
      read : (words : List ℕ) × (length words ≡ l.place - l.from) × MayRead g.B.Bus.log g.B.Bus.access_gives g.B.Bus.size l.fn.bus (page_word l.frame l.from) words l.bus × ((g.R.Room.held l.packet) ≡ (g.R.Room.held l.fn.packet) ++ bytes_from l.fragment l.from words);
    }
