-- Stated: claims rest on this file.
-- The rows of a document as they are written, before any limit is looked at.
use Rattle.std.specs.Prelude.{ℕ, ℤ, pos, Bool, List, [], ◌∷◌, Option, Some, None, Result, Ok, Err, is_none, map, option_and_then, option_map}
use Rattle.std.specs.Prelude.{unwrap_or}
use Rattle.std.specs.Prelude.{if◌then◌else◌}
use Rattle.std.specs.List.{list_any}
use Rattle.std.specs.Str.{bytes_eq}
use Rattle.std.specs.Option.{option_map_or}
use Rattle.toml.specs.Data.{Data, Items, no_items, item, Members, no_members, member, as_bool, as_str, as_integer, as_array, as_table, get_member}
use Rattle.xdp_load.specs.Gives.{each, or_else, or_refused, ◌>>=◌}
use Rattle.xdp_load.specs.Keys.{missing, name}
use Rattle.xdp_load.specs.Spot.{Refused, at}
use Rattle.xdp_load.specs.declared.fault.Fault.TheVariants as fault
use Rattle.xdp_load.specs.declared.key.Key.{Key}
use Rattle.xdp_load.specs.declared.key.Key.TheVariants as key

abbrev pub Text : Type 0
Text = List ℕ

-- ---- a table's keys

-- the first key of the table that isn't one of those
abbrev pub unknown_key : List Key → Members → Option Text
unknown_key known no_members = None
unknown_key known (member k d ms) = if list_any (λ key. bytes_eq k (name key)) known then unknown_key known ms else Some k

-- the table has no key but those
abbrev pub has_only : List Key → Members → Bool
has_only known ms = is_none (unknown_key known ms)

-- what the table holds at a key
abbrev pub found : Key → Members → Option Data
found k ms = get_member (name k) ms

-- the text at a key
abbrev pub text_at : Key → Members → Result Text Key
text_at k ms = or_else k (option_and_then as_str (found k ms))

-- the whole number at a key, or the one that it has where it is left out
abbrev pub number_at : Key → Members → Result ℤ Key
number_at k ms = or_else k (option_map_or as_integer (found k ms) (missing k))

-- ---- arrays

abbrev pub items_list : Items → List Data
items_list no_items = []
items_list (item d ds) = d ∷ items_list ds

-- the rows of an array
abbrev pub rows_in : Data → Option (List Data)
rows_in d = option_map items_list (as_array d)

-- the rows of the array at a key
abbrev pub list_at : Key → Members → Option (List Data)
list_at k ms = option_and_then rows_in (found k ms)

-- the same, none where there is no such key
abbrev pub values_at : Key → Members → Option (List Data)
values_at k ms = option_map_or rows_in (found k ms) (Some [])

-- the rows of the list at a key, each by f: refused at the key where it holds no list, and else at the first row that f refuses
abbrev pub rows : {A : Type 0} → (Data → Result A Key) → Key → Option (List Data) → Result (List A) Refused
rows f k None = or_refused fault.Key (at k) None
rows f k (Some ds) = each fault.Key f 0 ds

-- ---- numbers

-- the whole number that a value is
abbrev pub number_in : Data → ℤ
number_in d = unwrap_or (as_integer d) (pos 0)

abbrev pub is_no_number : Data → Bool
is_no_number d = is_none (as_integer d)

-- the values as whole numbers, where each is one
abbrev pub numbers_in : List Data → Option (List ℤ)
numbers_in ds = if list_any is_no_number ds then None else Some (map number_in ds)

-- the list of whole numbers at a key, none where it is left out
abbrev pub numbers_at : Key → Members → Result (List ℤ) Key
numbers_at k ms = or_else k (option_and_then numbers_in (values_at k ms))

-- ---- maps

-- a map as it is written
pub record MapText : Type 0 where
  pub name : Text
  pub entries : ℤ
  pub counters : ℤ
  pub values : List ℤ

abbrev pub map_keys : List Key
map_keys = key.Name ∷ key.Entries ∷ key.Counters ∷ key.Values ∷ []

abbrev pub map_of_fields : Members → Result MapText Key
map_of_fields ms = do
  name ← text_at key.Name ms
  entries ← number_at key.Entries ms
  counters ← number_at key.Counters ms
  values ← numbers_at key.Values ms
  Ok (record { name = name; entries = entries; counters = counters; values = values })

abbrev pub map_of_table : Members → Result MapText Key
map_of_table ms = if has_only map_keys ms then map_of_fields ms else Err key.Map

abbrev pub map_row : Data → Result MapText Key
map_row d = or_else key.Map (as_table d) >>= map_of_table

-- ---- relocations, packets and steps

-- a relocation as it is written: the slot, and the name of the map
pub record RelocText : Type 0 where
  pub slot : ℤ
  pub map : Text

abbrev pub reloc_keys : List Key
reloc_keys = key.Slot ∷ key.OfMap ∷ []

abbrev pub reloc_of_fields : Members → Result RelocText Key
reloc_of_fields ms = do
  slot ← number_at key.Slot ms
  of_map ← text_at key.OfMap ms
  Ok (record { slot = slot; map = of_map })

abbrev pub reloc_of_table : Members → Result RelocText Key
reloc_of_table ms = if has_only reloc_keys ms then reloc_of_fields ms else Err key.Reloc

abbrev pub reloc_row : Data → Result RelocText Key
reloc_row d = or_else key.Reloc (as_table d) >>= reloc_of_table

-- a packet as it is written: its bytes in hex
pub record PacketText : Type 0 where
  pub queue : ℤ
  pub bytes : Text
  pub times : ℤ

abbrev pub packet_keys : List Key
packet_keys = key.PacketQueue ∷ key.Bytes ∷ key.Times ∷ []

abbrev pub packet_of_fields : Members → Result PacketText Key
packet_of_fields ms = do
  queue ← number_at key.PacketQueue ms
  bytes ← text_at key.Bytes ms
  times ← number_at key.Times ms
  Ok (record { queue = queue; bytes = bytes; times = times })

abbrev pub packet_of_table : Members → Result PacketText Key
packet_of_table ms = if has_only packet_keys ms then packet_of_fields ms else Err key.Packet

abbrev pub packet_row : Data → Result PacketText Key
packet_row d = or_else key.Packet (as_table d) >>= packet_of_table

-- a step as it is written
pub record StepText : Type 0 where
  pub queue : ℤ
  pub answer : ℤ

abbrev pub step_of : List Data → Option StepText
step_of (a ∷ b ∷ []) = option_and_then (λ queue. option_and_then (λ answer. Some (record { queue = queue; answer = answer }))
    (as_integer b)) (as_integer a)
step_of _ = None

abbrev pub step_row : Data → Result StepText Key
step_row d = or_else key.Step (option_and_then step_of (rows_in d))

-- a place as it is written
pub record PlaceText : Type 0 where
  pub at : ℤ
  pub own : Bool

abbrev pub place_of : List Data → Option PlaceText
place_of (a ∷ b ∷ []) = option_and_then (λ at. option_and_then (λ own. Some (record { at = at; own = own }))
    (as_bool b)) (as_integer a)
place_of _ = None

abbrev pub place_row : Data → Result PlaceText Key
place_row d = or_else key.Place (option_and_then place_of (rows_in d))

-- a hex text of a program
abbrev pub hex_row : Data → Result Text Key
hex_row d = or_else key.Program (as_str d)
