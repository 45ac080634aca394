-- A slot crosses threads as a box of a queue does.
use mir.Raw.{raw}
use base.Shift.{Keyless}
use denote.Memory.{lone}
use denote.RawPtr.{Ptr}
use denote.Struct.Struct.{exits_of}
use denote.Struct.Owning.{shape, fields, to}
use denote.Param.Send.{IsSend, AllSend, owning_send, struct_send, sendable}
use Rattle.std.specs.Prelude.{Option, None, Some}
use Rattle.std.specs.Global.{Global}
use Rattle.std.proofs.Crossing as heap
use Rattle.std_alloc.proofs.SendSync.{quiet, lies}
use Rattle.std_heap.proofs.Global.TheSendSync as handle
use Rattle.xdp_host.specs.CountersHandle.{handle_owns}
use Rattle.xen_host.specs.contracts.sharing.SharedCounters as Home
use Rattle.xen_host.proofs.sharing.SharedCounters.TheSendSync.{the_send as home}
use Rattle.xdp_host.specs.contracts.counters_handle.Slot.{the_row, the_type}

owned : (alloc : Global) (p : Ptr) (held : Option Home.the_row.Denot) → Keyless (handle_owns alloc p held)
owned alloc p None = tt
owned alloc p (Some h) = (lies Home.the_row home p h, heap.frees.frees alloc (raw (lone Home.the_row.mir)) p)

pub send : IsSend the_row
send =
    let all : AllSend (fields the_type) = (search sendable, (handle.the_field_send, tt)) in
    owning_send the_type all (λ d. owned d.alloc d.at d.held)
    (λ k. quiet (to the_type) (exits_of k (fields the_type)) ((struct_send (shape the_type) all).leaving k))
