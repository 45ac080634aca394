-- Stated: claims rest on this file.
-- Settings that have none of the keys for lists and wider limits.
use Rattle.std.specs.Prelude.{ℕ, ◌≡◌, List, map, Option, Some, None, Ok}
use Rattle.std.specs.List.{AllByRecursion}
use Rattle.toml.specs.Data.{Data, Members, table}
use Rattle.xdp_load.specs.Document.{Text, found, values_at}
use Rattle.xdp_load.specs.Gives.{seen_by}
use Rattle.xdp_load.specs.Listed.{ListedView, listed_of}
use Rattle.xdp_load.specs.Setup.{SetupView, document_of, setup_of, text_of}
use Rattle.xdp_load.specs.declared.key.Key.TheVariants as key

-- the table of a map has none of them
pub record IsPlainMap (ms : Members) : Type 0 where
  pub kind : found key.KeyKind ms ≡ None
  pub size : found key.KeySize ms ≡ None
  pub rows : found key.Rows ms ≡ None
  pub parts : found key.Parts ms ≡ None

abbrev pub IsPlainRow : Data → Type 0
IsPlainRow (table ms) = IsPlainMap ms
IsPlainRow d = Unit {0}

abbrev pub ArePlainRows : Option (List Data) → Type 0
ArePlainRows None = Unit {0}
ArePlainRows (Some ds) = AllByRecursion IsPlainRow ds

-- a document has none of them
pub record IsPlain (ms : Members) : Type 0 where
  pub wide : found key.Wide ms ≡ None
  pub maps : ArePlainRows (values_at key.Map ms)

-- the document of a text has none of them, if the text has one
abbrev pub IsPlainText : List ℕ → Type 0
IsPlainText bytes = (text : Text) (ms : Members) → text_of bytes ≡ Some text → document_of text ≡ Ok ms → IsPlain ms

-- no map has a list
abbrev pub without_lists : SetupView → ListedView
without_lists s = record { setup = s; lists = map (λ _. None) s.shapes }

-- the setup, or the first fault and where it is, is the one that settings without lists have
abbrev pub IsReadAsEver : List ℕ → Type 0
IsReadAsEver bytes = listed_of bytes ≡ seen_by without_lists (setup_of bytes)
