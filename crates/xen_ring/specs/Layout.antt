-- Stated: claims rest on this file.
-- The words of a ring's page (ring.h, DEFINE_RING_TYPES: the two producers and the two event indices, padding up to
-- octet 64, and then the ring's entries).
-- Rows from ring.h and netif.h guard it: `header`, `sizes` and `entries` of crates/outside_rows.
use Rattle.std.specs.Prelude.{ℕ, ◌+◌, ◌*◌}
use Rattle.xen_ring.specs.Index.{place_of}

abbrev pub req_prod : ℕ
req_prod = 0

abbrev pub req_event : ℕ
req_event = 1

abbrev pub rsp_prod : ℕ
rsp_prod = 2

abbrev pub rsp_event : ℕ
rsp_event = 3

-- how many words an entry has: the greater of request and response (netif.h: tx 12 and 4 octets, rx 8 and 8)
abbrev pub tx_entry_words : ℕ
tx_entry_words = 3

abbrev pub rx_entry_words : ℕ
rx_entry_words = 2

-- the word of the page where word j of the entry that an index names stands, the entries having `entry_words` words
abbrev pub entry_word : (entry_words index j : ℕ) → ℕ
entry_word entry_words index j = 16 + entry_words * place_of index + j
