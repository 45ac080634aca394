-- Stated: claims rest on this file.
-- How a note is kept, and what it says.
use Rattle.std.specs.Prelude.{ℕ, ◌+◌, ◌/◌, ◌%◌, ◌≡◌, ◌≢◌, ◌<◌, ◌≤◌, ◌⊎◌, List, [], ◌∷◌, Option, None, Some, Bool, true, false}
use Rattle.std.specs.Prelude.{if◌then◌else◌, ◌==◌, slice_index_or}
use Rattle.bpf_note.specs.declared.val.Val.{Val}
use Rattle.bpf_note.specs.declared.val.Val.TheVariants.{Unset}
use Rattle.bpf_note.specs.declared.slot.Slot.{Slot}
use Rattle.bpf_note.specs.declared.slot.Slot.TheVariants.{Kept, Bytes}
use Rattle.bpf_note.specs.declared.bound.Bound.{Bound}
use Rattle.bpf_note.specs.Facts.{Facts}

-- a slot of eight bytes of which none is set
abbrev pub no_bytes : Slot
no_bytes = Bytes (false ∷ false ∷ false ∷ false ∷ false ∷ false ∷ false ∷ false ∷ [])

abbrev pub kept_of : Slot → Option Val
kept_of (Kept v) = Some v
kept_of (Bytes set) = None

-- byte b of the slot is set
abbrev pub set_of : Slot → ℕ → Bool
set_of (Kept v) b = true
set_of (Bytes set) b = slice_index_or set b false

abbrev pub top_in : List Bound → ℕ → ℕ
top_in [] id = 0
top_in (b ∷ bs) id = if id == b.id then b.top else top_in bs id

abbrev pub safe_in : List Bound → ℕ → Option ℕ
safe_in [] id = None
safe_in (b ∷ bs) id = if id == b.id then b.safe else safe_in bs id

-- a bound that says something
abbrev pub Says : Bound → Type 0
Says b = (b.top ≢ 0) ⊎ (b.safe ≢ None)

-- rising ids from one on, each with something to say
abbrev pub IsNormalFrom : ℕ → List Bound → Type 0
IsNormalFrom least [] = Unit {0}
IsNormalFrom least (b ∷ bs) = (least < b.id + 1) × Says b × IsNormalFrom (b.id + 1) bs

abbrev pub IsNormal : List Bound → Type 0
IsNormal bounds = IsNormalFrom 0 bounds

-- no byte of the slots below this one is set
abbrev pub IsBlankBelow : ℕ → List Slot → Type 0
IsBlankBelow floor slots = (floor ≤ 64) × ((j : ℕ) → j < floor → slice_index_or slots j no_bytes ≡ no_bytes)

-- a note as it is kept
pub record Noted : Type 0 where
  pub regs : List Val
  pub slots : List Slot
  pub bounds : List Bound

-- what a note says
unfoldable pub facts : Noted → Facts
facts n = record {
  reg = λ k. slice_index_or n.regs k Unset;
  kept = λ j. kept_of (slice_index_or n.slots j no_bytes);
  set = λ i. set_of (slice_index_or n.slots (i / 8) no_bytes) (i % 8);
  top = top_in n.bounds;
  safe = safe_in n.bounds;
}
