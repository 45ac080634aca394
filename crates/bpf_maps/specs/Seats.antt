-- Stated: claims rest on this file.
-- What contracts see of counters and of a seat.
use Rattle.std.specs.Prelude.{◌≡◌, ◌≢◌, ℕ, List, [], ◌∷◌, All, Contains, map, slice_index}
use Rattle.std.specs.List.{range_with_len}
use Rattle.atomic_table.specs.Seated.{TableId}
use Rattle.bpf_note.specs.declared.op.Op.{Op}
use Rattle.bpf_maps.specs.Beginning.{Beginning, IsLegalFrom, began, left_from}
use Rattle.bpf_note.specs.History.{Made, share}
use Rattle.bpf_note.specs.Shape.{Shape, IsCounter}
use Rattle.bpf_maps.specs.Layout.{place_of}
use Rattle.bpf_maps.specs.declared.view.Part.{Part}
use Rattle.bpf_maps.specs.declared.view.View.{View}

-- how many seats counters have at most
abbrev pub most_seats : ℕ
most_seats = 64

-- the table, the maps' shapes, the numbers that the counters began with, in the order of their places, and how many seats there are
pub record CountersView : Type 0 where
  pub table : TableId
  pub shapes : List Shape
  pub begin : List ℕ
  pub seats : ℕ

-- the table, the maps' shapes and the beginning of the counters, the seat's number, and what was done by it
pub record SeatView : Type 0 where
  pub table : TableId
  pub shapes : List Shape
  pub begin : List ℕ
  pub number : ℕ
  pub ops : List Op

-- the seat is of these counters
abbrev pub IsSeatOf : CountersView → SeatView → Type 0
IsSeatOf c s = (s.table ≡ c.table) × (s.shapes ≡ c.shapes) × (s.begin ≡ c.begin)

-- the beginning of counters
abbrev pub begin_of : CountersView → Beginning
begin_of c = began c.shapes c.begin

-- a seat that has done nothing
abbrev pub new_seat : CountersView → ℕ → SeatView
new_seat c number = record { table = c.table; shapes = c.shapes; begin = c.begin; number = number; ops = [] }

-- `count` seats, in order, from 0 on
abbrev pub new_seats : CountersView → ℕ → List SeatView
new_seats c count = map (new_seat c) (range_with_len 0 count)

-- the number and the list of a seat, which its view has alone
abbrev pub number_of : List Part → ℕ
number_of [] = 0
number_of (p ∷ ps) = p.number

abbrev pub ops_of : List Part → List Op
ops_of [] = []
ops_of (p ∷ ps) = p.ops

-- what contracts see of a seat of the table t with the view v
abbrev pub seat_view : TableId → View → SeatView
seat_view t v = record { table = t; shapes = v.shapes; begin = v.begin; number = number_of v.parts; ops = ops_of v.parts }

-- The operations of two seats stand in one legal history from this beginning
pub record StandTogether (begin : Beginning) (a b : SeatView) : Type 0 where
  pub history : List Made
  pub legal : IsLegalFrom begin history
  pub first : share a.number history ≡ a.ops
  pub second : share b.number history ≡ b.ops
  pub apart : a.number ≢ b.number

-- the maps' shapes, and a number for each counter
pub record TotalsView : Type 0 where
  pub shapes : List Shape
  pub values : List ℕ

-- the number of counter j of value k of map m
abbrev pub total_at : TotalsView → ℕ → ℕ → ℕ → ℕ
total_at t m k j = slice_index t.values (place_of t.shapes m k j)

-- The seats' lists are the shares of one legal history from this beginning, which has no other entries and leaves these numbers
pub record Account (begin : Beginning) (seats : List SeatView) (t : TotalsView) : Type 0 where
  pub history : List Made
  pub legal : IsLegalFrom begin history
  pub shares : All (λ (s : SeatView). share s.number history ≡ s.ops) seats
  pub no_others : All (λ (e : Made). Contains (map (λ (s : SeatView). s.number) seats) e.0) history
  pub leaves : (m k j : ℕ) → IsCounter t.shapes m k j → total_at t m k j ≡ left_from begin m k j history
