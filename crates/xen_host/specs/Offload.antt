-- Stated: claims rest on this file.
-- What a guest leaves undone of its packet.
use Rattle.std.specs.Prelude.{ℕ, Option, None, Some}
use Rattle.xen_netif.specs.Segments.{gso_type_number}
use Rattle.xen_netif.specs.declared.flags.TxFlags.{TxFlags}
use Rattle.xen_netif.specs.declared.segments.Segments.{Segments}

-- The flags of its first slot, and the segments into which it is to be cut.
pub record Offload : Type 0 where
  pub flags : TxFlags
  pub segments : Option Segments

-- netif.h, XEN_NETIF_GSO_TYPE_*, of which 0 is none
abbrev pub segment_type : Option Segments → ℕ
segment_type None = 0
segment_type (Some s) = gso_type_number s.kind

abbrev pub segment_size : Option Segments → ℕ
segment_size None = 0
segment_size (Some s) = s.size
