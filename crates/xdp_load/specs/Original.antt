-- Stated: claims rest on this file.
-- Settings that say, in a table `original`, of which program theirs was made, or a fault and where it is. Their maps may have lists.
use Rattle.std.specs.Prelude.{ℕ, Bool, List, [], ◌∷◌, Option, option_and_then, Result, Ok, Err, if◌then◌else◌}
use Rattle.bpf_lists.specs.declared.list.MapList.{MapList}
use Rattle.toml.specs.Data.{Members, as_table}
use Rattle.xdp_load.specs.declared.fault.Fault.TheVariants as fault
use Rattle.xdp_load.specs.declared.key.Key.{Key}
use Rattle.xdp_load.specs.declared.key.Key.TheVariants as key
use Rattle.xdp_load.specs.Document.{Text, PlaceText, RelocText, found, has_only, place_row, reloc_row}
use Rattle.xdp_load.specs.Gives.{each, in_original, or_refused, ◌>>=◌}
use Rattle.xdp_load.specs.Listed.{ListedView, ListedWritten, known_keys, listed_by, listed_limits, listed_setup_of}
use Rattle.xdp_load.specs.Numbers.{limited}
use Rattle.xdp_load.specs.Setup.{SetupView, joined, loaded_program, names_of}
use Rattle.xdp_load.specs.Spot.{Refused, at, refused}
use Rattle.xdp_load.specs.Written.{program_of, rows_of}

-- the original as it is written
pub record OriginalText : Type 0 where
  pub program : List Text
  pub relocs : List RelocText
  pub places : List PlaceText

-- where the original stands before a slot, and whether a conditional jump there is the new program's alone
pub record Place : Type 0 where
  pub at : ℕ
  pub own : Bool

-- a setup with the lists of its maps, the bytes of the original, which has the same maps, and a place for each slot
pub record RewrittenView : Type 0 where
  pub setup : SetupView
  pub lists : List (Option MapList)
  pub original : List ℕ
  pub places : List Place

abbrev pub original_keys : List Key
original_keys = key.Program ∷ key.Reloc ∷ key.Place ∷ []

unfoldable pub rows_of_original : Members → Result OriginalText Refused
rows_of_original ms = do
  program ← program_of ms
  relocs ← rows_of reloc_row key.Reloc ms
  places ← rows_of place_row key.Place ms
  Ok (record { program = program; relocs = relocs; places = places })

unfoldable pub original_of_table : Members → Result OriginalText Refused
original_of_table ms = if has_only original_keys ms then in_original (rows_of_original ms) else Err (refused fault.Key (at key.Original))

unfoldable pub original_of : Members → Result OriginalText Refused
original_of ms = or_refused fault.Key (at key.Original) (option_and_then as_table (found key.Original ms)) >>= original_of_table

-- what the document says beside its original
unfoldable pub listed_beside : Members → Result ListedWritten Refused
listed_beside ms = listed_by (key.Original ∷ known_keys) ms

abbrev pub limited_place : PlaceText → Result Place Key
limited_place p = limited key.Place p.at >>= (λ at. Ok (record { at = at; own = p.own }))

-- the bytes of the original, its relocations applied, which name the document's maps
unfoldable pub relocated_program : List Text → OriginalText → Result (List ℕ) Refused
relocated_program names o = joined 0 o.program >>= loaded_program names o.relocs

unfoldable pub original_program : List Text → OriginalText → Result (List ℕ) Refused
original_program names o = in_original (relocated_program names o)

unfoldable pub rewritten_of_table : Members → Result RewrittenView Refused
rewritten_of_table ms = do
  o ← original_of ms
  x ← listed_beside ms
  places ← in_original (each fault.Limit limited_place 0 o.places)
  l ← listed_limits x
  listed ← listed_setup_of x l
  original ← original_program (names_of x.written.maps) o
  Ok (record { setup = listed.setup; lists = listed.lists; original = original; places = places })

-- its setup with the lists
abbrev pub listed_in : RewrittenView → ListedView
listed_in r = record { setup = r.setup; lists = r.lists }
