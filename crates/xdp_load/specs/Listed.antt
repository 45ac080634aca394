-- Stated: claims rest on this file.
-- Settings whose maps may have lists of keys and wider limits: the setup and the lists, or the first fault and where it is. What
-- has none of the keys for it is read as ever.
use Rattle.std.specs.Prelude.{ℕ, ℤ, ◌*◌, suc, ◌≡◌, ◌<◌, Bool, List, [], ◌∷◌, ◌++◌, length, map, nat_le, slice_get, Option, Some, None}
use Rattle.std.specs.Prelude.{Result, Ok, Err, if◌then◌else◌}
use Rattle.std.specs.Option.{option_map_or}
use Rattle.bpf_lists.specs.Keys.{Keyed}
use Rattle.bpf_lists.specs.Refusals.{AreListed}
use Rattle.bpf_lists.specs.declared.list.MapList.{MapList}
use Rattle.bpf_lists.specs.declared.list.MapList.TheVariants as given
use Rattle.bpf_note.specs.Shape.{Shape, most_maps}
use Rattle.bpf_note.specs.declared.key.MapKey.{MapKey}
use Rattle.bpf_note.specs.declared.key.MapKey.TheVariants.{Index, Listed, Constants}
use Rattle.toml.specs.Data.{Members}
use Rattle.xdp_load.specs.Document.{Text, unknown_key}
use Rattle.xdp_load.specs.Gives.{each, in_key, or_refused, ◌>>=◌}
use Rattle.xdp_load.specs.Keys.{top_keys}
use Rattle.xdp_load.specs.Limits.{LimitedText, bad_name, limited_with}
use Rattle.xdp_load.specs.MapKeys.{ListedText, are_rows, limited_key, listed_row, truth_at}
use Rattle.xdp_load.specs.Numbers.{limited, limited_numbers}
use Rattle.xdp_load.specs.Setup.{Packet, SetupView, bytes_in, decoded_of, document_of, names_of, relocated_setup, text_of}
use Rattle.xdp_load.specs.Spot.{Refused, at, refused, row, unknown, whole}
use Rattle.xdp_load.specs.Values.{are_values, room_of}
use Rattle.xdp_load.specs.Written.{WrittenText, program_of, rows_of, written_with}
use Rattle.xdp_load.specs.declared.fault.Fault.TheVariants as fault
use Rattle.xdp_load.specs.declared.key.Key.{Key}
use Rattle.xdp_load.specs.declared.key.Key.TheVariants as key
use Rattle.xdp_load.specs.declared.numbers.Limits.{Limits}
use Rattle.xdp_load.specs.Numbers.{numbers_of}

-- ---- what is written

-- the document, its maps with their keys, and whether wider limits are asked for
pub record ListedWritten : Type 0 where
  pub written : WrittenText
  pub maps : List ListedText
  pub wide : Bool

unfoldable pub listed_rows_of : Members → Result ListedWritten Refused
listed_rows_of ms = do
  program ← program_of ms
  numbers ← in_key fault.Key (numbers_of ms)
  maps ← rows_of listed_row key.Map ms
  written ← written_with program numbers (map (λ m. m.map) maps) ms
  wide ← in_key fault.Key (truth_at key.Wide ms)
  Ok (record { written = written; maps = maps; wide = wide })

abbrev pub known_keys : List Key
known_keys = top_keys ++ (key.Wide ∷ [])

-- what a document says that knows these keys
abbrev pub listed_by : List Key → Members → Result ListedWritten Refused
listed_by known ms = option_map_or (λ k. Err (refused fault.Key (unknown k))) (unknown_key known ms) (listed_rows_of ms)

unfoldable pub listed_written : Members → Result ListedWritten Refused
listed_written ms = listed_by known_keys ms

-- ---- limits

abbrev pub entries_key : Bool → Key
entries_key wide = if wide then key.WideEntries else key.Entries

abbrev pub map_key : Bool → Key
map_key wide = if wide then key.WideMap else key.Map

-- how many maps there may be
abbrev pub most_of : Bool → ℕ
most_of wide = if wide then most_maps else 4

-- the shape, where its counters can begin with these numbers
abbrev pub filled_shape : ℕ → ℕ → MapKey → Bool → List ℤ → Result Shape Key
filled_shape entries counters k parts values =
    if are_values (room_of k (counters * entries)) values then Ok (record { entries = entries; counters = counters; key = k; parts = parts }) else Err key.Values

-- the shape of a map within its limits
abbrev pub listed_shape : Bool → ListedText → Result Shape Key
listed_shape wide m = do
  entries ← limited (entries_key wide) m.map.entries
  counters ← limited key.Counters m.map.counters
  k ← limited_key m.key
  if are_rows k entries m.key.rows then filled_shape entries counters k m.key.parts m.map.values else Err key.Rows

unfoldable pub listed_limits_with : ListedWritten → Limits → Result LimitedText Refused
listed_limits_with x n = each fault.Limit (listed_shape x.wide) 0 x.maps >>= limited_with x.written n

unfoldable pub listed_limits_of : ListedWritten → Limits → Result LimitedText Refused
listed_limits_of x n = if nat_le (length x.written.maps) (most_of x.wide) then listed_limits_with x n else Err (refused fault.Limit (at (map_key x.wide)))

unfoldable pub listed_limits : ListedWritten → Result LimitedText Refused
listed_limits x = in_key fault.Limit (limited_numbers x.written.numbers) >>= listed_limits_of x

-- ---- the keys of lists

-- the bytes of some keys of map n, one after another
abbrev pub row_bytes : ℕ → List Text → Result (List ℕ) Refused
row_bytes n [] = Ok []
row_bytes n (t ∷ ts) = bytes_in key.Rows n t >>= (λ bytes. row_bytes n ts >>= (λ rest. Ok (bytes ++ rest)))

-- the list of map n, or its constants, if it has some
abbrev pub list_of : ℕ → MapKey → List Text → Result (Option MapList) Refused
list_of n Index rows = Ok None
list_of n (Listed kind) rows = row_bytes n rows >>= (λ keys. Ok (Some (given.Rows (record { kind = kind; keys = keys }))))
list_of n (Constants size) rows = row_bytes n rows >>= (λ bytes. Ok (Some (given.Constants bytes)))

-- those of some maps of these shapes, numbered from n on
abbrev pub lists_of : ℕ → List Shape → List ListedText → Result (List (Option MapList)) Refused
lists_of n (s ∷ ss) (m ∷ ms) = list_of n s.key m.key.rows >>= (λ l. lists_of (suc n) ss ms >>= (λ ls. Ok (l ∷ ls)))
lists_of n ss ms = Ok []

-- ---- the whole

-- a setup, and for each of its maps the list of its keys, if it has one, where row k is the key of value k; or its constants
pub record ListedView : Type 0 where
  pub setup : SetupView
  pub lists : List (Option MapList)

unfoldable pub listed_setup_with : ListedWritten → LimitedText → List ℕ × List Packet → Result ListedView Refused
listed_setup_with x l d = do
  lists ← lists_of 0 l.shapes x.maps
  setup ← relocated_setup x.written l d
  Ok (record { setup = setup; lists = lists })

unfoldable pub listed_setup_of : ListedWritten → LimitedText → Result ListedView Refused
listed_setup_of x l = option_map_or (λ n. Err (refused fault.Name (row key.Name n))) (bad_name 0 (names_of x.written.maps))
    (decoded_of x.written l >>= listed_setup_with x l)

unfoldable pub listed_of_table : Members → Result ListedView Refused
listed_of_table ms = do
  x ← listed_written ms
  l ← listed_limits x
  listed_setup_of x l

-- the setup and the lists of a text, or its first fault but those of the rows of lists
unfoldable pub listed_of : List ℕ → Result ListedView Refused
listed_of bytes = do
  text ← or_refused fault.Text whole (text_of bytes)
  document ← document_of text
  listed_of_table document

-- ---- the rows of lists

-- the lists of the first n maps are such as maps can have
abbrev pub AreListedBelow : List (Option MapList) → ℕ → Type 0
AreListedBelow lists n = (k : ℕ) (rows : Keyed) → k < n → slice_get lists k ≡ Some (Some (given.Rows rows)) → AreListed rows.kind rows.keys

-- map n is the first whose list is none that a map can have
pub record IsFirstUnlisted (lists : List (Option MapList)) (n : ℕ) : Type 0 where
  pub rows : Keyed
  pub there : slice_get lists n ≡ Some (Some (given.Rows rows))
  pub unlisted : AreListed rows.kind rows.keys → ⊥
  pub before : AreListedBelow lists n

-- all else is right, and this is the first map whose list isn't
abbrev pub IsRowsFault : Result ListedView Refused → Refused → Type 0
IsRowsFault read r = (x : ListedView) × (n : ℕ) × (read ≡ Ok x) × (r ≡ refused fault.Rows (row key.Rows n)) × IsFirstUnlisted x.lists n
