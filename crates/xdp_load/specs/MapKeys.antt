-- Stated: claims rest on this file.
-- By what the values of a map are looked up, or that it is one of constants, as settings write it.
use Rattle.std.specs.Prelude.{ℕ, ℤ, pos, Bool, false, not, List, [], ◌∷◌, Option, Some, None, Result, Ok, Err, codes, is_none, length, map, nat_le}
use Rattle.std.specs.Prelude.{option_and_then, unwrap_or, ◌++◌, ◌&&◌, ◌==◌, ◌/◌, if◌then◌else◌}
use Rattle.std.specs.List.{list_any}
use Rattle.std.specs.Option.{option_map_or}
use Rattle.std.specs.Ordering.{int_eq}
use Rattle.std.specs.Str.{bytes_eq}
use Rattle.bpf_note.specs.Keys.{size}
use Rattle.bpf_note.specs.declared.key.KeyKind.TheVariants.{Exact, Prefix}
use Rattle.bpf_note.specs.declared.key.MapKey.{MapKey}
use Rattle.bpf_note.specs.declared.key.MapKey.TheVariants.{Index, Listed, Constants}
use Rattle.toml.specs.Data.{Data, Members, as_bool, as_str, as_table}
use Rattle.xdp_load.specs.Document.{Text, MapText, found, has_only, map_keys, map_of_fields, number_at, values_at}
use Rattle.xdp_load.specs.Gives.{or_else, ◌>>=◌}
use Rattle.xdp_load.specs.Numbers.{limited}
use Rattle.xdp_load.specs.declared.key.Key.{Key}
use Rattle.xdp_load.specs.declared.key.Key.TheVariants as key

-- ---- what is written

-- the truth value at a key, false where it is left out
abbrev pub truth_at : Key → Members → Result Bool Key
truth_at k ms = or_else k (option_map_or as_bool (found k ms) (Some false))

-- the text at a key, or another where it is left out
abbrev pub text_or : Key → Text → Members → Result Text Key
text_or k t ms = or_else k (option_map_or as_str (found k ms) (Some t))

-- the text that a value is
abbrev pub text_in : Data → Text
text_in d = unwrap_or (as_str d) []

abbrev pub is_no_text : Data → Bool
is_no_text d = is_none (as_str d)

-- the values as texts, where each is one
abbrev pub texts_of : List Data → Option (List Text)
texts_of ds = if list_any is_no_text ds then None else Some (map text_in ds)

-- the list of texts at a key, none where it is left out
abbrev pub texts_at : Key → Members → Result (List Text) Key
texts_at k ms = or_else k (option_and_then texts_of (values_at k ms))

-- the kind of a map's keys, their bytes of data, and its list of keys; or how many constants, and their bytes; and whether a load may
-- take a part of a counter
pub record KeyText : Type 0 where
  pub kind : Text
  pub size : ℤ
  pub rows : List Text
  pub parts : Bool

-- a map whose values may be looked up by keys
pub record ListedText : Type 0 where
  pub map : MapText
  pub key : KeyText

abbrev pub listed_keys : List Key
listed_keys = map_keys ++ (key.KeyKind ∷ key.KeySize ∷ key.Rows ∷ key.Parts ∷ [])

abbrev pub key_of_fields : Members → Result KeyText Key
key_of_fields ms = do
  kind ← text_or key.KeyKind (codes "index") ms
  size ← number_at key.KeySize ms
  rows ← texts_at key.Rows ms
  parts ← truth_at key.Parts ms
  Ok (record { kind = kind; size = size; rows = rows; parts = parts })

abbrev pub listed_of_fields : Members → Result ListedText Key
listed_of_fields ms = do
  map ← map_of_fields ms
  k ← key_of_fields ms
  Ok (record { map = map; key = k })

abbrev pub listed_of_table : Members → Result ListedText Key
listed_of_table ms = if has_only listed_keys ms then listed_of_fields ms else Err key.Map

abbrev pub listed_row : Data → Result ListedText Key
listed_row d = or_else key.Map (as_table d) >>= listed_of_table

-- ---- its limits

-- an array's keys are numbers of four bytes
abbrev pub index_of : ℤ → Result MapKey Key
index_of z = if int_eq z (pos 4) then Ok Index else Err key.KeySize

abbrev pub exact_of : ℤ → Result MapKey Key
exact_of z = limited key.KeySize z >>= (λ n. Ok (Listed (Exact n)))

abbrev pub prefix_of : ℤ → Result MapKey Key
prefix_of z = limited key.KeySize z >>= (λ n. Ok (Listed (Prefix n)))

-- constants are so many bytes
abbrev pub constants_of : ℤ → Result MapKey Key
constants_of z = limited key.ConstantSize z >>= (λ n. Ok (Constants n))

-- the key that is written
abbrev pub limited_key : KeyText → Result MapKey Key
limited_key k =
    if bytes_eq k.kind (codes "index") then index_of k.size else
    if bytes_eq k.kind (codes "exact") then exact_of k.size else
    if bytes_eq k.kind (codes "prefix") then prefix_of k.size else
    if bytes_eq k.kind (codes "constants") then constants_of k.size else Err key.KeyKind

-- a row's text has the length of a key, at two digits a byte, an odd digit not counted
abbrev pub is_row_of : ℕ → Text → Bool
is_row_of n t = length t / 2 == n

-- an array has no rows; of a list there are at most as many as values, each of the length of a key; constants are one row
abbrev pub are_rows : MapKey → ℕ → List Text → Bool
are_rows Index entries rows = length rows == 0
are_rows (Listed kind) entries rows = nat_le (length rows) entries && not (list_any (λ t. not (is_row_of (size kind) t)) rows)
are_rows (Constants bytes) entries rows = (length rows == 1) && not (list_any (λ t. not (is_row_of bytes t)) rows)
