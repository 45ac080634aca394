-- Stated: claims rest on this file.
-- An entry of a grant table (grant_table.h, struct grant_entry_v1): the first word has the flags in its low half and
-- the domid in its high half, the second is the frame.
-- Rows from grant_table.h guard it: `entry` of crates/outside_rows.
use Rattle.std.specs.Prelude.{ℕ, ◌+◌, ◌*◌, ◌/◌, ◌%◌, ◌^◌, Bool, not, ◌==◌, bit_and}
use Rattle.xen_page.specs.declared.entry.Entry.{Entry}

abbrev pub entry_of : (a b : ℕ) → Entry
entry_of a b = record { flags = a % 2 ^ 16; domid = a / 2 ^ 16; frame = b }

abbrev pub first_word : Entry → ℕ
first_word e = e.flags + 2 ^ 16 * e.domid

-- the type, bits 0 and 1, is GTF_permit_access
abbrev pub permits_access : Entry → Bool
permits_access e = bit_and e.flags 3 == 1

-- GTF_readonly
abbrev pub is_readonly : Entry → Bool
is_readonly e = not (bit_and e.flags 4 == 0)

-- GTF_reading, 8, or GTF_writing, 16
abbrev pub is_marked : Entry → Bool
is_marked e = not (bit_and e.flags 24 == 0)
