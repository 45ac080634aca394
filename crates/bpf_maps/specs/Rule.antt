-- For proofs: no claim rests on this file.
-- The rule of the counters' table. Word 0 is spare, and the counters of the maps follow in order.
use Rattle.std.specs.Prelude.{◌≡◌, ℕ, ◌+◌, ◌<◌, ◌≤◌, ◌==◌, if◌then◌else◌, List, [], ◌∷◌, ◌++◌, All, map, sum_by, length}
use Rattle.std.specs.Prelude.{slice_index, nat_lt}
use Rattle.std.specs.List.{range_with_len}
use mathlib.Core.Option.{some}
use lib.ListN.{get_elem?}
use Rattle.atomic_table.specs.Table.{State, Step, Me}
use Rattle.bpf_note.specs.declared.op.Op.{Op}
use Rattle.bpf_note.specs.declared.op.Op.TheVariants.{Load, Add}
use Rattle.bpf_maps.specs.declared.view.Part.{Part}
use Rattle.bpf_maps.specs.declared.view.View.{View}
use Rattle.bpf_note.specs.Shape.{Shape, IsCounter}
use Rattle.bpf_maps.specs.Layout.{place_of, total}
use Rattle.bpf_maps.specs.Beginning.{IsLegalFrom, began, left_from}
use Rattle.bpf_note.specs.History.{Made, share}

-- the word of counter j of value k of map m
abbrev pub word_of : List Shape → ℕ → ℕ → ℕ → ℕ
word_of shapes m k j = 1 + place_of shapes m k j

-- a number with its list
abbrev pub part : ℕ → List Op → Part
part number ops = record { number = number; ops = ops }

-- the shapes, the beginning and the numbers at a seat
abbrev pub view : List Shape → List ℕ → List Part → View
view shapes begin parts = record { shapes = shapes; begin = begin; parts = parts }

-- the numbers first, first + 1 .., each with no operation
abbrev pub blanks : ℕ → ℕ → List Part
blanks first count = map (λ (number : ℕ). part number []) (range_with_len first count)

-- before any step all numbers stand in one view
abbrev pub first_view : List Shape → List ℕ → ℕ → View
first_view shapes begin seats = view shapes begin (blanks 0 seats)

-- how often a number stands in a view
abbrev pub times : ℕ → List Part → ℕ
times number parts = sum_by (λ (p : Part). if number == p.number then 1 else 0) parts

-- the list of a number is its share of the history, and the view has the maps' shapes and the beginning
abbrev pub Fits : List Shape → List ℕ → List Made → View → Type 0
Fits shapes begin history v = All (λ (p : Part). (v.shapes ≡ shapes) × (v.begin ≡ begin) × (share p.number history ≡ p.ops)) v.parts

-- one legal history from the beginning leaves the words; the share of each number is its list, each number stands in one view, and
-- there are no other entries
pub record Kept (shapes : List Shape) (begin : List ℕ) (seats : ℕ) (s : State (Unit {0}) View) : Type 0 where
  pub history : List Made
  pub wide : length s.words ≡ 1 + total shapes
  pub spare : slice_index s.words 0 ≡ 0
  pub legal : IsLegalFrom (began shapes begin) history
  pub leaves : (m k j : ℕ) → IsCounter shapes m k j → slice_index s.words (word_of shapes m k j) ≡ left_from (began shapes begin) m k j history
  pub shared : (id : ℕ) (v : View) → get_elem? s.views id ≡ some v → Fits shapes begin history v
  pub once : (number : ℕ) → sum_by (λ (v : View). times number v.parts) s.views ≡ (if nat_lt number seats then 1 else 0)
  pub no_others : All (λ (e : Made). e.0 < seats) history

abbrev pub grown_first : List Part → Op → List Part
grown_first [] o = []
grown_first (p ∷ ps) o = part p.number (p.ops ++ o ∷ []) ∷ ps

-- the operation stands at the end of the first list of a view
abbrev pub grown : View → Op → View
grown v o = view v.shapes v.begin (grown_first v.parts o)

-- a seat of the table, its view and its slots
abbrev pub Sat : Type 0
Sat = Me (Unit {0}) View

-- what a step tells: the seat's list grew by this operation at the step's word, wherever that word is a counter's
abbrev pub Grows : (ℕ → ℕ → ℕ → ℕ → ℕ → Op) → Step (Unit {0}) → Sat → ℕ → Sat → Type 0
Grows op st before n after = (after.1 ≡ before.1)
    × ((m k j : ℕ) → IsCounter before.0.shapes m k j → st.word ≡ word_of before.0.shapes m k j →
    after.0 ≡ grown before.0 (op m k j st.first n))

-- a load: what was found
abbrev pub loaded : Step (Unit {0}) → Sat → ℕ → Sat → Type 0
loaded = Grows (λ m k j first n. Load m k j n)

-- an add: what was added, and what was found
abbrev pub fetched : Step (Unit {0}) → Sat → ℕ → Sat → Type 0
fetched = Grows Add

-- the lists of a view are the shares of one legal history from this beginning, and no number stands there twice
abbrev pub AreShares : List Shape → List ℕ → List Part → Type 0
AreShares shapes begin parts = (history : List Made) × IsLegalFrom (began shapes begin) history × All (λ (p : Part). share p.number history ≡ p.ops) parts ×
    ((number : ℕ) → times number parts ≤ 1)

-- a look: the view stays, and its lists are shares of one legal history
abbrev pub looked : Step (Unit {0}) → Sat → ℕ → Sat → Type 0
looked st before n after = (after ≡ before) × AreShares before.0.shapes before.0.begin before.0.parts

-- the first number with its list, and the others: what a split parts
abbrev pub first_of : List Part → List Part
first_of [] = []
first_of (p ∷ ps) = p ∷ []

abbrev pub rest_of : List Part → List Part
rest_of [] = []
rest_of (p ∷ ps) = ps
