-- Stated: claims rest on this file.
-- Rows in the order of their data, and of those with the same data the shorter first. So the rows that a row's prefix covers
-- follow it.
use Rattle.std.specs.Prelude.{ℕ, ◌≡◌, ◌+◌, ◌-◌, ◌*◌, ◌^◌, ◌<◌, ◌≤◌, List, take, length, slice_index, min}
use Rattle.bpf_note.specs.declared.key.KeyKind.{KeyKind}
use Rattle.bpf_note.specs.Keys.{data_of, bits_of}
use Rattle.bpf_lists.specs.Keys.{value, first, row, count}
use Rattle.bpf_lists.specs.Refusals.{AreRows, IsSame}

-- a key as a number: its data, then its length, which is at most 512
abbrev pub rank : KeyKind → List ℕ → ℕ
rank kind key = value (data_of kind key) * 1024 + bits_of kind key

-- the first key's bits begin the second, which is no shorter
abbrev pub Covers : KeyKind → List ℕ → List ℕ → Type 0
Covers kind a b = (bits_of kind a ≤ bits_of kind b) × (first (bits_of kind a) (data_of kind a) ≡ first (bits_of kind a) (data_of kind b))

-- keys with their rows in order
pub record Ordered : Type 0 where
  pub kind : KeyKind
  pub keys : List ℕ
  pub rows : List ℕ

-- the key at a place of the order
abbrev pub at : Ordered → ℕ → List ℕ
at o place = row o.kind o.keys (slice_index o.rows place)

-- every row has a place
pub record HasPlace (rows : List ℕ) (r : ℕ) : Type 0 where
  pub place : ℕ
  pub within : place < length rows
  pub is : slice_index rows place ≡ r

pub record IsOrdered (o : Ordered) : Type 0 where
  pub bytes : (k : ℕ) → slice_index o.keys k < 256
  pub good : AreRows o.kind o.keys
  pub long : length o.rows ≡ count o.kind o.keys
  pub below : (place : ℕ) → place < length o.rows → slice_index o.rows place < length o.rows
  pub every : (r : ℕ) → r < length o.rows → HasPlace o.rows r
  pub rising : (i j : ℕ) → i < j → j < length o.rows → rank o.kind (at o i) < rank o.kind (at o j)

-- each row before `limit` that covers the key lies below `above`, and covers the row below it
abbrev pub Reaches : Ordered → ℕ → List ℕ → ℕ → Type 0
Reaches o limit key above = (j : ℕ) → j < limit → Covers o.kind (at o j) key → (j < above) × Covers o.kind (at o j) (at o (above - 1))

-- one above the place of the longest other prefix that covers each place, 0 for none
pub record AreParents (o : Ordered) (parents : List ℕ) : Type 0 where
  pub below : (place : ℕ) → place < length parents → slice_index parents place ≤ place
  pub reach : (place : ℕ) → place < length parents → Reaches o place (at o place) (slice_index parents place)

-- where a row stands by its data, its length and its number
abbrev pub seat : KeyKind → List ℕ → ℕ → ℕ
seat kind keys r = rank kind (row kind keys r) * 2 ^ 32 + r

-- the same for any number, which past the last row has the last row's data
abbrev pub spot : KeyKind → List ℕ → ℕ → ℕ → ℕ
spot kind keys last r = rank kind (row kind keys (min r last)) * 2 ^ 32 + r

-- all rows in this order
pub record AreSorted (kind : KeyKind) (keys : List ℕ) (rows : List ℕ) : Type 0 where
  pub long : length rows ≡ count kind keys
  pub below : (place : ℕ) → place < length rows → slice_index rows place < count kind keys
  pub every : (r : ℕ) → r < count kind keys → HasPlace rows r
  pub rising : (i j : ℕ) → i < j → j < length rows → seat kind keys (slice_index rows i) < seat kind keys (slice_index rows j)

-- no neighbours have one key
abbrev pub Differ : KeyKind → List ℕ → List ℕ → Type 0
Differ kind keys rows = (place : ℕ) → place + 1 < length rows →
    IsSame kind (row kind keys (slice_index rows place)) (row kind keys (slice_index rows (place + 1))) → ⊥

-- the number of the first eight bytes of data, or of all if there are fewer
abbrev pub lead : List ℕ → ℕ
lead bytes = value (take 8 bytes)

-- that number for each row
pub record AreFronts (kind : KeyKind) (keys fronts : List ℕ) : Type 0 where
  pub long : length fronts ≡ count kind keys
  pub each : (r : ℕ) → r < count kind keys → slice_index fronts r ≡ lead (data_of kind (row kind keys r))

-- that number for each place
pub record AreLeads (o : Ordered) (leads : List ℕ) : Type 0 where
  pub long : length leads ≡ length o.rows
  pub each : (place : ℕ) → place < length o.rows → slice_index leads place ≡ lead (data_of o.kind (at o place))

-- a search of the first place whose data are above a number goes on from `low` to `high`
pub record IsSpan (o : Ordered) (wanted low high : ℕ) : Type 0 where
  pub in_order : low ≤ high
  pub most : high ≤ length o.rows
  pub below : (i : ℕ) → i < low → value (data_of o.kind (at o i)) ≤ wanted
  pub above : (i : ℕ) → high ≤ i → i < length o.rows → wanted < value (data_of o.kind (at o i))
