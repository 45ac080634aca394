-- Stated: claims rest on this file.
-- What a packet on its way to the frontend leaves it to do (netif.h, "Guest receive"): the flags of a data slot's response, the
-- extra in the place of the second slot's, and which packets a frontend takes.
-- Rows worked by hand guard it: crates/xen_netif_tests/src/tests/offloads.rt.
use Rattle.std.specs.Prelude.{ℕ, Bool, true, false, nat_lt, nat_le, ◌&&◌, ◌==◌, Option, Some, None, if◌then◌else◌}
use Rattle.xen_netif.specs.Segments.{gso_type_number, is_offered}
use Rattle.xen_netif.specs.declared.flags.RxFlags.{RxFlags}
use Rattle.xen_netif.specs.declared.offload.Accepts.{Accepts}
use Rattle.xen_netif.specs.declared.offload.RxOffload.{RxOffload}
use Rattle.xen_netif.specs.declared.offload.RxOffload.TheVariants.{Whole, Validated, Blank, Segmented}
use Rattle.xen_netif.specs.declared.segments.GsoExtra.{GsoExtra}
use Rattle.xen_netif.specs.declared.segments.Segments.{Segments}

-- Of a packet whose checksum is blank, Linux says both flags (xenvif_rx_data_slot), since what made it is trusted.
abbrev pub is_validated : RxOffload → Bool
is_validated Whole = false
is_validated Validated = true
is_validated Blank = true
is_validated (Segmented s) = true

-- A frontend finishes the checksum of each segment, so that of the whole is blank.
abbrev pub is_blank : RxOffload → Bool
is_blank Whole = false
is_blank Validated = false
is_blank Blank = true
is_blank (Segmented s) = true

abbrev pub has_extra : RxOffload → Bool
has_extra Whole = false
has_extra Validated = false
has_extra Blank = false
has_extra (Segmented s) = true

-- The first response alone says them; a later one's flags are those of a packet that leaves nothing.
abbrev pub said_at : ℕ → RxOffload → RxOffload
said_at page o = if page == 0 then o else Whole

-- the flags of the response to the slot that takes this page of a packet
abbrev pub data_flags : RxOffload → (more : Bool) → RxFlags
data_flags o more =
    record { data_validated = is_validated o; csum_blank = is_blank o; more_data = more; extra_info = has_extra o; gso_prefix = false }

abbrev pub rx_flags_at : RxOffload → (page : ℕ) → (more : Bool) → RxFlags
rx_flags_at o page more = data_flags (said_at page o) more

-- the extra of a packet that is to be segmented: no other follows it, and no feature has a name
abbrev pub gso_extra_for : Segments → GsoExtra
gso_extra_for s = record { more = false; size = s.size; kind = gso_type_number s.kind; features = 0 }

abbrev pub rx_extra : RxOffload → Option GsoExtra
rx_extra Whole = None
rx_extra Validated = None
rx_extra Blank = None
rx_extra (Segmented s) = Some (gso_extra_for s)

-- A frontend refuses a segment size of 0. A size above the packet's isn't one.
abbrev pub is_rx_segment_size : (packet size : ℕ) → Bool
is_rx_segment_size packet size = nat_lt 0 size && nat_le size packet

-- Whether a frontend that accepts so much takes a packet of so many bytes (netif.h, feature-no-csum-offload,
-- feature-ipv6-csum-offload, feature-gso-tcpv4, feature-gso-tcpv6).
abbrev pub is_taken : Accepts → (packet : ℕ) → RxOffload → Bool
is_taken accepts packet Whole = true
is_taken accepts packet Validated = true
is_taken accepts packet Blank = accepts.blank_checksums
is_taken accepts packet (Segmented s) = is_offered accepts.segments s.kind && is_rx_segment_size packet s.size
