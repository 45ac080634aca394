-- For proofs: no claim rests on this file.
-- What is done to slots of the stack.
use Rattle.std.specs.Prelude.{ℕ, ◌≡◌, ◌<◌, List, [], ◌∷◌, Bool, true, false, ◌&&◌, map, slice_index_or}
use Rattle.bpf_note.specs.declared.val.Val.{Val}
use Rattle.bpf_note.specs.declared.slot.Slot.{Slot}
use Rattle.bpf_note.specs.declared.slot.Slot.TheVariants.{Kept, Bytes}
use Rattle.bpf_note.specs.declared.replacement.Replacement.{Replacement}
use Rattle.bpf_note.specs.declared.replacement.Replacement.TheVariants.{Forget, Resolve}
use Rattle.bpf_note.specs.Facts.{forgotten, resolved}
use Rattle.bpf_note.specs.Join.{joined_value, joined_kept}
use Rattle.bpf_note.specs.Parts.{kept_of, set_of}

abbrev pub all_bytes : List Bool
all_bytes = true ∷ true ∷ true ∷ true ∷ true ∷ true ∷ true ∷ true ∷ []

abbrev pub set_bytes : Slot → List Bool
set_bytes (Kept v) = all_bytes
set_bytes (Bytes bytes) = bytes

-- what a value becomes
abbrev pub replaced : Replacement → Val → Val
replaced (Forget id) v = forgotten id v
replaced (Resolve id known) v = resolved id known v

-- the value that is kept is replaced
abbrev pub slot_with : (Val → Val) → Slot → Slot
slot_with f (Kept v) = Kept (f v)
slot_with f (Bytes bytes) = Bytes bytes

-- the bytes that are set on both sides
abbrev pub both : List Bool → List Bool → List Bool
both xs ys = map (λ b. slice_index_or xs b false && slice_index_or ys b false) (0 ∷ 1 ∷ 2 ∷ 3 ∷ 4 ∷ 5 ∷ 6 ∷ 7 ∷ [])

abbrev pub joined_slot : Slot → Slot → Slot
joined_slot (Kept a) (Kept b) = Kept (joined_value a b)
joined_slot a b = Bytes (both (set_bytes a) (set_bytes b))

-- what two slots say together is what the first says
pub record IsCovered (a b : Slot) : Type 0 where
  pub kept : joined_kept (kept_of a) (kept_of b) ≡ kept_of a
  pub set : (k : ℕ) → k < 8 → (set_of a k && set_of b k) ≡ set_of a k
