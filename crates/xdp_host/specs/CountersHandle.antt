-- For proofs: no claim rests on this file.
-- What a handle owns: the same as a box of shared counters, or nothing.
use base.Fml.{Fml, ftrue}
use base.Stored.{Coded}
use denote.RawPtr.{Ptr}
use Rattle.std.specs.Prelude.{Option, None, Some}
use Rattle.std.specs.Coded.{coded_option}
use Rattle.std.specs.Box.Ownership.{box_owns}
use Rattle.std.specs.Global.{Global}
use Rattle.std_heap.specs.contracts.GlobalAllocator.TheImpl.{ghosts}
use Rattle.xen_host.specs.contracts.sharing.SharedCounters.{the_row}

abbrev pub handle_owns : Global → Ptr → Option the_row.Denot → Fml
handle_owns alloc p None = ftrue
handle_owns alloc p (Some h) = box_owns (ghosts.dealloc_token alloc) the_row p h

abbrev pub held_coded : Coded (Option the_row.Denot)
held_coded = coded_option the_row.coded
