-- Stated: claims rest on this file.
-- Settings that say, in a table `original`, of which function of which object theirs was made, or a fault and where it is. Whether they do
-- or name a program's bytes is decided by the key `object`.
use Rattle.std.specs.Prelude.{ℕ, ◌≡◌, ◌⊎◌, Bool, false, List, [], ◌∷◌, length, Option, Some, None, option_and_then, Result, Ok, Err, if◌then◌else◌}
use Rattle.std.specs.Prelude.{is_none, not}
use Rattle.bpf_lists.specs.declared.list.MapList.{MapList}
use Rattle.toml.specs.Data.{Members, as_table}
use Rattle.xdp_load.specs.declared.fault.Fault.TheVariants as fault
use Rattle.xdp_load.specs.declared.key.Key.{Key}
use Rattle.xdp_load.specs.declared.key.Key.TheVariants as key
use Rattle.xdp_load.specs.Document.{Text, PlaceText, found, has_only, place_row, text_at}
use Rattle.xdp_load.specs.Gives.{each, in_key, in_original, or_refused, ◌>>=◌}
use Rattle.xdp_load.specs.Listed.{AreListedBelow, IsRowsFault, ListedView, listed_limits, listed_setup_of}
use Rattle.xdp_load.specs.Original.{Place, RewrittenView, limited_place, listed_beside, listed_in, rewritten_of_table}
use Rattle.xdp_load.specs.Setup.{SetupView, bytes_in, document_of, text_of}
use Rattle.xdp_load.specs.Spot.{Refused, at, refused, whole}
use Rattle.xdp_load.specs.Written.{rows_of}

-- the function as it is written: its object in hex, and its name
pub record FunctionText : Type 0 where
  pub object : Text
  pub function : Text
  pub places : List PlaceText

-- a setup with the lists of its maps, the bytes of an object, the name of a function in it, and a place for each slot
pub record FunctionView : Type 0 where
  pub setup : SetupView
  pub lists : List (Option MapList)
  pub object : List ℕ
  pub function : Text
  pub places : List Place

-- settings beside a program's bytes, or beside a function
pub data BesideView : Type 0 where
  of_program : RewrittenView → BesideView
  of_function : FunctionView → BesideView

abbrev pub function_keys : List Key
function_keys = key.Object ∷ key.Function ∷ key.Place ∷ []

unfoldable pub rows_of_function : Members → Result FunctionText Refused
rows_of_function ms = do
  object ← in_key fault.Key (text_at key.Object ms)
  function ← in_key fault.Key (text_at key.Function ms)
  places ← rows_of place_row key.Place ms
  Ok (record { object = object; function = function; places = places })

unfoldable pub function_of_table : Members → Result FunctionText Refused
function_of_table ms = if has_only function_keys ms then in_original (rows_of_function ms) else Err (refused fault.Key (at key.Original))

unfoldable pub function_of : Members → Result FunctionText Refused
function_of ms = or_refused fault.Key (at key.Original) (option_and_then as_table (found key.Original ms)) >>= function_of_table

unfoldable pub of_function_of_table : Members → Result FunctionView Refused
of_function_of_table ms = do
  o ← function_of ms
  x ← listed_beside ms
  places ← in_original (each fault.Limit limited_place 0 o.places)
  l ← listed_limits x
  listed ← listed_setup_of x l
  object ← in_original (bytes_in key.Object 0 o.object)
  Ok (record { setup = listed.setup; lists = listed.lists; object = object; function = o.function; places = places })

-- the original's table names an object
abbrev pub has_object : Option Members → Bool
has_object None = false
has_object (Some ms) = not (is_none (found key.Object ms))

abbrev pub names_object : Members → Bool
names_object ms = has_object (option_and_then as_table (found key.Original ms))

unfoldable pub beside_of_table : Members → Result BesideView Refused
beside_of_table ms =
    if names_object ms then (of_function_of_table ms >>= (λ x. Ok (of_function x)))
    else (rewritten_of_table ms >>= (λ r. Ok (of_program r)))

-- what a text says, or its first fault but those of the rows of lists
unfoldable pub beside_of : List ℕ → Result BesideView Refused
beside_of bytes = do
  text ← or_refused fault.Text whole (text_of bytes)
  document ← document_of text
  beside_of_table document

-- its setup with the lists
abbrev pub listed_of_function : FunctionView → ListedView
listed_of_function x = record { setup = x.setup; lists = x.lists }

abbrev pub listed_in_beside : BesideView → ListedView
listed_in_beside (of_program r) = listed_in r
listed_in_beside (of_function x) = listed_of_function x

-- the text says this, with lists of which each is one that a map can have
abbrev pub IsBesideOf : List ℕ → BesideView → Type 0
IsBesideOf text b = (beside_of text ≡ Ok b) × AreListedBelow (listed_in_beside b).lists (length (listed_in_beside b).lists)

-- the text has this first fault, at this spot: it says nothing; or it does, and this is its first list that no map can have
abbrev pub IsBesideFault : List ℕ → Refused → Type 0
IsBesideFault text f = (beside_of text ≡ Err f) ⊎ IsRowsFault (beside_of text >>= (λ b. Ok (listed_in_beside b))) f
