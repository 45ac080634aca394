-- Stated: claims rest on this file.
-- A new ring, by how the mapping of its page was answered.
use Rattle.std.specs.Prelude.{ℕ, ◌==◌, Result, Ok, Err, if◌then◌else◌}
use Rattle.xdp_world.specs.Frames.{frame_of}
use Rattle.xen_page.specs.Mapping.{Mapping}
use Rattle.xen_page.specs.declared.fault.GrantFault.{GrantFault}
use Rattle.thread_pair.specs.declared.fault.PairFault.{PairFault}
use Rattle.thread_pair.specs.declared.fault.PairFault.TheVariants.{Map}

-- the mapping of the page that the reference grants; if there is none, or one of another page, the ring can't be mapped
abbrev pub ring_of : ℕ → Result Mapping GrantFault → Result Mapping PairFault
ring_of gref (Ok m) = if m.frame == frame_of gref then Ok m else Err Map
ring_of gref (Err fault) = Err Map
