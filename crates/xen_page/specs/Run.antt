-- Stated: claims rest on this file.
-- A run: consecutive words of a frame, read or written one after another.
use Rattle.std.specs.Prelude.{ℕ, ◌+◌, ◌*◌, ◌<◌, ◌^◌, ◌≡◌, List, [], ◌∷◌, ◌++◌, All, Option, length, drop}
use Rattle.std.specs.Int.{w32, to_le_bytes}
use Rattle.std.specs.List.{flat_map}
use Rattle.xen_page.specs.Access.{Performs}
use Rattle.xen_page.specs.declared.access.Access.{Access}
use Rattle.xen_page.specs.declared.access.Access.TheVariants as access
use Rattle.xen_page.specs.declared.place.Place.{Place}

-- a read that answers each of the words, in rising order from a place on
abbrev pub reads_of : Place → List ℕ → List Access
reads_of at [] = []
reads_of at (word ∷ words) = access.Read at word ∷ reads_of (record at { word = at.word + 1 }) words

-- A bus read words of 32 bits, each once and in rising order, and these are their bytes, each word's lowest byte first.
pub record ReadsRun {S : Type 0} (log : S → Option (List Access)) (gives : S → Access → S → Type 0)
    (at : Place) (old : S) (bytes : List ℕ) (new : S) : Type 0 where
  pub words : List ℕ
  pub below : All (λ word. word < 2 ^ 32) words
  pub performed : Performs log gives old (reads_of at words) new
  pub told : bytes ≡ flat_map (to_le_bytes w32) words

-- `count` words of a run are read from a place on, each once and in rising order, and the room begins with their bytes; after
-- these it is as it was at the start.
pub record HasRead {S : Type 0} (log : S → Option (List Access)) (gives : S → Access → S → Type 0)
    (at : Place) (count : ℕ) (old : S) (start : List ℕ) (new : S) (room : List ℕ) : Type 0 where
  pub words : List ℕ
  pub many : length words ≡ count
  pub below : All (λ word. word < 2 ^ 32) words
  pub performed : Performs log gives old (reads_of at words) new
  pub filled : room ≡ flat_map (to_le_bytes w32) words ++ drop (4 * count) start

-- If a run was read up to a number of words, it is read up to a higher one.
abbrev pub ReadsFurther : {S : Type 0} (log : S → Option (List Access)) (gives : S → Access → S → Type 0) (at : Place)
    (count : ℕ) (old : S) (room : List ℕ) (more : ℕ) (new : S) (filled : List ℕ) → Type 0
ReadsFurther {S = S} log gives at count old room more new filled =
    (first : S) (start : List ℕ) → HasRead log gives at count first start old room → HasRead log gives at more first start new filled

-- a write of each of the words, in rising order from a place on
abbrev pub writes_of : Place → List ℕ → List Access
writes_of at [] = []
writes_of at (word ∷ words) = access.Write at word ∷ writes_of (record at { word = at.word + 1 }) words

-- These bytes are those of words of 32 bits, each word's lowest byte first, and a bus wrote the words, each once and in rising order.
pub record WritesRun {S : Type 0} (log : S → Option (List Access)) (gives : S → Access → S → Type 0)
    (at : Place) (old : S) (bytes : List ℕ) (new : S) : Type 0 where
  pub words : List ℕ
  pub below : All (λ word. word < 2 ^ 32) words
  pub told : bytes ≡ flat_map (to_le_bytes w32) words
  pub performed : Performs log gives old (writes_of at words) new
