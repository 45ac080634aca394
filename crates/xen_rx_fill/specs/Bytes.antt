-- Stated: claims rest on this file.
-- The bytes of a packet that is sent, as the words that are written hold them.
use Rattle.std.specs.Prelude.{ℕ, ◌≡◌, ◌-◌, ◌*◌, ◌<◌, List, [], ◌∷◌, ◌++◌, length, replicate, slice_index}
use Rattle.xen_netif.specs.Copy.{bytes_of}
use Rattle.xen_netif.specs.declared.offload.RxOffload.{RxOffload}
use Rattle.xen_steps.specs.Event.{Event, Write}
use Rattle.xen_rx_fill.specs.Packets.{words}
use Rattle.xen_rx_fill.specs.Sending.{buffer_writes}
use Rattle.xen_rx_fill.specs.declared.target.Target.{Target}

-- the values of a trace's writes
abbrev pub values_written : List Event → List ℕ
values_written [] = []
values_written (Write at value ∷ t) = value ∷ values_written t
values_written (e ∷ t) = values_written t

-- The words that are written into the posted buffers, each low byte first, are the packet's bytes and then zeros, up to a multiple of four.
abbrev pub SentBytes : Type 0
SentBytes = (o : RxOffload) (ts : List Target) (packet : List ℕ) → ((i : ℕ) → slice_index packet i < 256) →
    bytes_of (values_written (buffer_writes o ts packet (words packet) 0)) ≡ packet ++ replicate (4 * words packet - length packet) 0
