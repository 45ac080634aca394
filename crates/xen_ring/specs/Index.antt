-- Stated: claims rest on this file.
-- Ring indices (ring.h: RING_IDX is an unsigned int of 32 bits, so all its arithmetic is modulo 2^32).
-- Rows from ring.h guard it: `requests`, `notice` and `entries` of crates/outside_rows.
use Rattle.std.specs.Prelude.{ℕ, ◌+◌, ◌-◌, ◌%◌, ◌^◌, Bool, nat_le, nat_lt, Result, Ok, Err, if◌then◌else◌}
use Rattle.xen_ring.specs.declared.overflow.Overflow.{Overflow}

-- The index n further on.
abbrev pub advanced : (index n : ℕ) → ℕ
advanced index n = (index + n) % 2 ^ 32

-- How far an index has to run to come to another.
abbrev pub distance : (from to : ℕ) → ℕ
distance from to = (to + (2 ^ 32 - from)) % 2 ^ 32

-- The requests that a producer shows past the consumer (ring.h: RING_HAS_UNCONSUMED_REQUESTS), unless it is more than a
-- ring of 256 entries past the private response producer (ring.h: RING_REQUEST_PROD_OVERFLOW).
abbrev pub unconsumed_of : (prod cons rsp : ℕ) → Result ℕ Overflow
unconsumed_of prod cons rsp = if nat_le (distance rsp prod) 256 then Ok (distance cons prod) else Err (record {})

-- A notice is due if the event index is less far behind the new producer than the old producer is
-- (ring.h: RING_PUSH_REQUESTS_AND_CHECK_NOTIFY and RING_PUSH_RESPONSES_AND_CHECK_NOTIFY).
abbrev pub is_due : (old new event : ℕ) → Bool
is_due old new event = nat_lt (distance event new) (distance old new)

-- The entry of a ring of 256 entries (ring.h: RING_GET_REQUEST takes the index modulo RING_SIZE).
abbrev pub place_of : ℕ → ℕ
place_of index = index % 256
