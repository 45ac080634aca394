-- Stated: claims rest on this file.
-- Segmentation offload (netif.h, XEN_NETIF_EXTRA_TYPE_GSO): what the extra behind a packet's first slot says of it, and which
-- packets a queue takes by what it offers.
-- Rows worked by hand guard it: crates/xen_netif_tests/src/tests/segments.rt.
use Rattle.std.specs.Prelude.{ℕ, ◌≡◌, ◌≤◌, ◌+◌, ◌*◌, ◌%◌, ◌^◌, Bool, true, false, nat_le, not, ◌&&◌, ◌==◌, List, [], ◌∷◌}
use Rattle.std.specs.Prelude.{Option, Some, None, Result, Ok, Err, slice_index, if◌then◌else◌}
use Rattle.xen_netif.specs.Chain.{Slot, extra_info}
use Rattle.xen_netif.specs.Fragments.{sized_fragments, slot_size}
use Rattle.xen_netif.specs.Slots.{asks_extra, extra_type_number, type_of}
use Rattle.xen_netif.specs.Words.{bit, high, joined, low}
use Rattle.xen_netif.specs.declared.extra.ExtraType.TheVariants.{Gso}
use Rattle.xen_netif.specs.declared.fault.SizeFault.{SizeFault}
use Rattle.xen_netif.specs.declared.fault.SizeFault.TheVariants.{ExtraInfo}
use Rattle.xen_netif.specs.declared.fragment.Fragment.{Fragment}
use Rattle.xen_netif.specs.declared.segments.GsoExtra.{GsoExtra}
use Rattle.xen_netif.specs.declared.segments.GsoType.{GsoType}
use Rattle.xen_netif.specs.declared.segments.GsoType.TheVariants.{TcpV4, TcpV6}
use Rattle.xen_netif.specs.declared.segments.Offers.{Offers}
use Rattle.xen_netif.specs.declared.segments.Segments.{Segments}

-- netif.h, XEN_NETIF_GSO_TYPE_*
abbrev pub gso_type_number : GsoType → ℕ
gso_type_number TcpV4 = 1
gso_type_number TcpV6 = 2

abbrev pub gso_type_of : ℕ → Option GsoType
gso_type_of n = if n == 1 then Some TcpV4 else (if n == 2 then Some TcpV6 else None)

-- netif.h, struct xen_netif_extra_info, u.gso: type, flags, size; the segmentation's type, pad, features
abbrev pub gso_extra_of : List ℕ → GsoExtra
gso_extra_of words =
    record {
      more = asks_extra words;
      size = high (slice_index words 0);
      kind = slice_index words 1 % 2 ^ 8;
      features = high (slice_index words 1);
    }

abbrev pub gso_extra_words : GsoExtra → List ℕ
gso_extra_words e = joined (extra_type_number Gso + 2 ^ 8 * bit e.more) e.size ∷ joined e.kind e.features ∷ 0 ∷ []

-- the words without the flags that have no name, the pad and the padding
abbrev pub gso_extra_named : List ℕ → List ℕ
gso_extra_named words =
    joined (low (slice_index words 0) % 2 ^ 9) (high (slice_index words 0))
    ∷ joined (slice_index words 1 % 2 ^ 8) (high (slice_index words 1))
    ∷ 0 ∷ []

abbrev pub is_gso : Slot → Bool
is_gso extra = type_of extra == extra_type_number Gso

-- netif.h, feature-gso-tcpv4 and feature-gso-tcpv6
abbrev pub is_offered : Offers → GsoType → Bool
is_offered offers TcpV4 = offers.gso_tcpv4
is_offered offers TcpV6 = offers.gso_tcpv6

abbrev pub no_offers : Offers
no_offers = record { gso_tcpv4 = false; gso_tcpv6 = false }

-- A segment has at least the bytes that any host takes (RFC 9293, 3.7.1, the default of the maximum segment size), so that
-- a packet makes few segments, and at most the packet's bytes. The bound is this project's own.
abbrev pub is_segment_size : (packet size : ℕ) → Bool
is_segment_size packet size = nat_le 536 size && nat_le size packet

-- What a packet's first slot and its only extra say.
pub record AreSegments (offers : Offers) (first extra : Slot) (s : Segments) : Type 0 where
  pub gso : is_gso extra ≡ true
  pub last : asks_extra extra ≡ false
  pub kind : gso_type_number s.kind ≡ (gso_extra_of extra).kind
  pub offered : is_offered offers s.kind ≡ true
  pub size : s.size ≡ (gso_extra_of extra).size
  pub least : 536 ≤ s.size
  pub most : s.size ≤ slot_size first

abbrev pub if_offered : Offers → ℕ → Option GsoType → Option Segments
if_offered offers size None = None
if_offered offers size (Some kind) = if is_offered offers kind then Some (record { kind = kind; size = size }) else None

-- the segments that they say, computed; none if a queue doesn't take the packet
abbrev pub segments_said : Offers → (first extra : Slot) → Option Segments
segments_said offers first extra =
    if is_gso extra && not (asks_extra extra) && is_segment_size (slot_size first) (gso_extra_of extra).size
    then if_offered offers (gso_extra_of extra).size (gso_type_of (gso_extra_of extra).kind)
    else None

-- How a chain's packet is segmented; none if it has no extra, or isn't taken.
abbrev pub segments_behind : Offers → Bool → Slot → List Slot → Option Segments
segments_behind offers true first (extra ∷ later) = segments_said offers first extra
segments_behind offers asked first later = None

abbrev pub segments_of : Offers → List Slot → Option Segments
segments_of offers [] = None
segments_of offers (first ∷ later) = segments_behind offers (extra_info first) first later

-- The data slots behind the first one, if the packet has no extra or one that a queue takes.
abbrev pub without_extra : List Slot → Option Segments → Option (List Slot)
without_extra later (Some s) = Some later
without_extra later None = None

abbrev pub data_behind : Offers → Bool → Slot → List Slot → Option (List Slot)
data_behind offers false first later = Some later
data_behind offers true first [] = None
data_behind offers true first (extra ∷ later) = without_extra later (segments_said offers first extra)

abbrev pub sized_if : Slot → Option (List Slot) → Result (List Fragment) SizeFault
sized_if first None = Err ExtraInfo
sized_if first (Some later) = sized_fragments first later

-- The fragments of a whole chain's packet, or why a queue with these offers refuses it. An extra that it doesn't take comes first.
abbrev pub offered_fragments : Offers → List Slot → Result (List Fragment) SizeFault
offered_fragments offers [] = Ok []
offered_fragments offers (first ∷ later) = sized_if first (data_behind offers (extra_info first) first later)
