-- For proofs: no claim rests on this file.
-- What is done to lists of bounds.
use Rattle.std.specs.Prelude.{ℕ, suc, ◌/◌, ◌≡◌, ◌≢◌, List, [], ◌∷◌, ◌++◌, drop, Bool, false, Option, None, Some, max, if◌then◌else◌}
use Rattle.std.specs.Prelude.{nat_lt, ◌==◌, ◌||◌, not, is_some, slice_index_or}
use Rattle.bpf_note.specs.declared.bound.Bound.{Bound}
use Rattle.bpf_note.specs.State.{put}
use Rattle.bpf_note.specs.Join.{lesser}
use Rattle.bpf_note.specs.Parts.{top_in, safe_in, IsNormal}

-- how many bounds at the front are of lesser ids
abbrev pub place_of : List Bound → ℕ → ℕ
place_of [] id = 0
place_of (b ∷ bs) id = if nat_lt b.id id then suc (place_of bs id) else 0

abbrev pub has_id : Option Bound → ℕ → Bool
has_id None id = false
has_id (Some b) id = b.id == id

-- the bounds with what they say of one id replaced
pub record IsSet (old : List Bound) (b : Bound) (new : List Bound) : Type 0 where
  pub normal : IsNormal new
  pub tops : (id : ℕ) → top_in new id ≡ put (top_in old) b.id b.top id
  pub safes : (id : ℕ) → safe_in new id ≡ put (safe_in old) b.id b.safe id

-- what both lists say of each id: the greater top, and the lesser safe bound
pub record AreJoined (xs ys zs : List Bound) : Type 0 where
  pub normal : IsNormal zs
  pub tops : (id : ℕ) → top_in zs id ≡ max (top_in xs id) (top_in ys id)
  pub safes : (id : ℕ) → safe_in zs id ≡ lesser (safe_in xs id) (safe_in ys id)

-- a list, and after it the join of two others
abbrev pub IsJoinedOnto : List Bound → List Bound → List Bound → List Bound → Type 0
IsJoinedOnto front xs ys new = (zs : List Bound) × (new ≡ front ++ zs) × AreJoined xs ys zs

-- what the join of two lists has in front, up to a place in each of them, whatever the join of the rest
abbrev pub IsJoinedFront : List Bound → List Bound → ℕ → ℕ → List Bound → Type 0
IsJoinedFront xs ys i j front = (zs : List Bound) → AreJoined (drop i xs) (drop j ys) zs → AreJoined xs ys (front ++ zs)

abbrev pub says : Bound → Bool
says b = not (b.top == 0) || is_some b.safe

-- a bound in front of others, if it says anything
abbrev pub with_said : Bound → List Bound → List Bound
with_said b bs = if says b then b ∷ bs else bs

-- a bound joined with none
abbrev pub alone : Bound → Bound
alone b = record { id = b.id; top = b.top; safe = None }

-- two bounds of one id joined
abbrev pub paired : Bound → Bound → Bound
paired a b = record { id = a.id; top = max a.top b.top; safe = lesser a.safe b.safe }

-- bounds of which each is joined with none
abbrev pub all_alone : List Bound → List Bound
all_alone [] = []
all_alone (b ∷ bs) = with_said (alone b) (all_alone bs)

-- what is said of one id is replaced, in its chunk of 32 ids
pub record IsSetIn (old : List (List Bound)) (b : Bound) (new : List (List Bound)) : Type 0 where
  pub here : IsSet (slice_index_or old (b.id / 32) []) b (slice_index_or new (b.id / 32) [])
  pub others : (k : ℕ) → k ≢ b.id / 32 → slice_index_or old k [] ≡ slice_index_or new k []
