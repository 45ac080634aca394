-- What is done to chunks of bounds, and to the bounds beside them, is done to all of them together.
use Rattle.std.proofs.Common.{◌≡◌, ◌≢◌, ℕ, ◌+◌, ◌*◌, ◌/◌, ◌<◌, ◌≤◌, Bool, true, false, refl, Option, None, Some, List, [], ◌++◌, max, nat_eq, sym, ap, ◌∙◌, arith, cond, subst, length, get_or, ◌⊎◌, inl, inr}
use Rattle.std.proofs.lemmas.Bool.Decides.{nat_tests}
use Rattle.bpf_note.specs.declared.bound.Bound.{Bound}
use Rattle.bpf_note.specs.State.{put}
use Rattle.bpf_note.specs.Join.{lesser}
use Rattle.bpf_note.specs.Parts.{top_in, safe_in, IsNormal}
use Rattle.bpf_note.specs.Bounds.{IsSet, AreJoined, IsSetIn}
use Rattle.bpf_note.specs.Chunks.{together, IsQuiet, IsChunk, AreChunks, SameChunks}
use Rattle.bpf_note.proofs.BoundLemmas.{same_bounds}
use Rattle.bpf_note.proofs.PlaceLemmas.{le_cases, past_end}
use Rattle.bpf_note.proofs.ChunkLemmas.{SaySameOf, view_normal, low_says, high_says}

abbrev Chunks : Type 0
Chunks = List (List Bound)

put_away : {A : Type 0} (f : ℕ → A) (k i : ℕ) (v : A) → i ≢ k → put f k v i ≡ f i
put_away {A = A} f k i v h = by (nat_eq i k) refl
  where
    by : (b : Bool) → b ≡ nat_eq i k → cond b v (f i) ≡ f i
    by true e = absurd (h (grind (arith, nat_tests)))
    by false e = refl

put_here : {A : Type 0} (f : ℕ → A) (k : ℕ) (v : A) → put f k v k ≡ v
put_here {A = A} f k v = by (nat_eq k k) refl
  where
    by : (b : Bool) → b ≡ nat_eq k k → cond b v (f k) ≡ v
    by true e = refl
    by false e = absurd (grind (arith, nat_tests))

-- f and g with v at k, where f and g are equal
put_both : {A : Type 0} (f g : ℕ → A) (k i : ℕ) (v : A) → f i ≡ g i → put f k v i ≡ put g k v i
put_both {A = A} f g k i v e = ap (λ (x : A). cond (nat_eq i k) v x) e

equal_cases : (a b : ℕ) → (a ≡ b) ⊎ (a ≢ b)
equal_cases a b = by (nat_eq a b) refl
  where
    by : (t : Bool) → t ≡ nat_eq a b → (a ≡ b) ⊎ (a ≢ b)
    by true e = inl (grind (arith, nat_tests))
    by false e = inr (grind (arith, nat_tests))

-- one id's bound is set where it stands already
pub set_stands : (near all : List Bound) (b : Bound) → SaySameOf b.id near all → IsNormal all → IsSet near b near → IsSet all b all
set_stands near all b same n s = record { normal = n; tops = λ id. top id (equal_cases id b.id); safes = λ id. safe id (equal_cases id b.id) }
  where
    top : (id : ℕ) → (id ≡ b.id) ⊎ (id ≢ b.id) → top_in all id ≡ put (top_in all) b.id b.top id
    top id (inl e) = subst (λ (i : ℕ). top_in all i ≡ put (top_in all) b.id b.top i) (sym e) (sym same.0 ∙ s.tops b.id ∙ put_here (top_in near) b.id b.top ∙ sym (put_here (top_in all) b.id b.top))
    top id (inr ne) = sym (put_away (top_in all) b.id id b.top ne)

    safe : (id : ℕ) → (id ≡ b.id) ⊎ (id ≢ b.id) → safe_in all id ≡ put (safe_in all) b.id b.safe id
    safe id (inl e) = subst (λ (i : ℕ). safe_in all i ≡ put (safe_in all) b.id b.safe i) (sym e) (sym same.1 ∙ s.safes b.id ∙ put_here (safe_in near) b.id b.safe ∙ sym (put_here (safe_in all) b.id b.safe))
    safe id (inr ne) = sym (put_away (safe_in all) b.id id b.safe ne)

quiet_set : (xs ys : List Bound) (b : Bound) (id : ℕ) → IsSet xs b ys → id ≢ b.id → IsQuiet xs id → IsQuiet ys id
quiet_set xs ys b id s ne q = (s.tops id ∙ put_away (top_in xs) b.id id b.top ne ∙ q.0, s.safes id ∙ put_away (safe_in xs) b.id id b.safe ne ∙ q.1)

set_chunk : (k : ℕ) (xs ys : List Bound) (b : Bound) → k ≡ b.id / 32 → IsChunk k xs → IsSet xs b ys → IsChunk k ys
set_chunk k xs ys b e c s = record {
  normal = s.normal;
  below = λ id lt. quiet_set xs ys b id s (omega arith) (c.below id lt);
  above = λ id ge. quiet_set xs ys b id s (omega arith) (c.above id ge);
}

-- a bound of a low id is set
pub low_set_chunks : (cs ds : Chunks) (high : List Bound) (b : Bound) → AreChunks cs high → length ds ≤ 128 → IsSetIn cs b ds → AreChunks ds high
low_set_chunks cs ds high b a few s = record { few = few; chunk = λ k. by k (equal_cases k (b.id / 32)); normal = a.normal; quiet = a.quiet }
  where
    by : (k : ℕ) → (k ≡ b.id / 32) ⊎ (k ≢ b.id / 32) → IsChunk k (get_or ds k [])
    by k (inl e) =
        let here : IsSet (get_or cs k []) b (get_or ds k []) = subst (λ (n : ℕ). IsSet (get_or cs n []) b (get_or ds n [])) (sym e) s.here in
        set_chunk k (get_or cs k []) (get_or ds k []) b e (a.chunk k) here
    by k (inr ne) = subst (IsChunk k) (s.others k ne) (a.chunk k)

pub low_set : (cs ds : Chunks) (high : List Bound) (b : Bound) → AreChunks cs high → AreChunks ds high → b.id < 4096 → IsSetIn cs b ds → IsSet (together cs ++ high) b (together ds ++ high)
low_set cs ds high b a d lt s = record { normal = view_normal ds high d; tops = λ id. (at id (le_cases 4096 id)).0; safes = λ id. (at id (le_cases 4096 id)).1 }
  where
    low : (id : ℕ) → id < 4096 → (id / 32 ≡ b.id / 32) ⊎ (id / 32 ≢ b.id / 32) → (top_in (get_or ds (id / 32) []) id ≡ put (top_in (get_or cs (id / 32) [])) b.id b.top id) × (safe_in (get_or ds (id / 32) []) id ≡ put (safe_in (get_or cs (id / 32) [])) b.id b.safe id)
    low id l (inl e) =
        let here : IsSet (get_or cs (id / 32) []) b (get_or ds (id / 32) []) = subst (λ (n : ℕ). IsSet (get_or cs n []) b (get_or ds n [])) (sym e) s.here in
        (here.tops id, here.safes id)
    low id l (inr ne) =
        let away : id ≢ b.id = λ same. ne (ap (λ (n : ℕ). n / 32) same) in
        let kept = s.others (id / 32) ne in (
          ap (λ (xs : List Bound). top_in xs id) (sym kept) ∙ sym (put_away (top_in (get_or cs (id / 32) [])) b.id id b.top away),
          ap (λ (xs : List Bound). safe_in xs id) (sym kept) ∙ sym (put_away (safe_in (get_or cs (id / 32) [])) b.id id b.safe away),
        )

    at : (id : ℕ) → (4096 ≤ id) ⊎ (id < 4096) → (top_in (together ds ++ high) id ≡ put (top_in (together cs ++ high)) b.id b.top id) × (safe_in (together ds ++ high) id ≡ put (safe_in (together cs ++ high)) b.id b.safe id)
    at id (inl ge) =
        let away : id ≢ b.id = omega arith in
        let old = high_says cs high id a ge in
        let new = high_says ds high id d ge in
        (new.0 ∙ sym old.0 ∙ sym (put_away (top_in (together cs ++ high)) b.id id b.top away), new.1 ∙ sym old.1 ∙ sym (put_away (safe_in (together cs ++ high)) b.id id b.safe away))
    at id (inr l) =
        let old = low_says cs high id a l in
        let new = low_says ds high id d l in
        let set = low id l (equal_cases (id / 32) (b.id / 32)) in (
          new.0 ∙ set.0 ∙ put_both (top_in (get_or cs (id / 32) [])) (top_in (together cs ++ high)) b.id id b.top (sym old.0),
          new.1 ∙ set.1 ∙ put_both (safe_in (get_or cs (id / 32) [])) (safe_in (together cs ++ high)) b.id id b.safe (sym old.1),
        )

-- a bound of another id is set
pub high_set_chunks : (cs : Chunks) (high new : List Bound) (b : Bound) → AreChunks cs high → 4096 ≤ b.id → IsSet high b new → AreChunks cs new
high_set_chunks cs high new b a ge s = record { few = a.few; chunk = a.chunk; normal = s.normal; quiet = λ id lt. quiet_set high new b id s (omega arith) (a.quiet id lt) }

pub high_set : (cs : Chunks) (high new : List Bound) (b : Bound) → AreChunks cs high → AreChunks cs new → 4096 ≤ b.id → IsSet high b new → IsSet (together cs ++ high) b (together cs ++ new)
high_set cs high new b a d ge s = record { normal = view_normal cs new d; tops = λ id. (at id (le_cases 4096 id)).0; safes = λ id. (at id (le_cases 4096 id)).1 }
  where
    at : (id : ℕ) → (4096 ≤ id) ⊎ (id < 4096) → (top_in (together cs ++ new) id ≡ put (top_in (together cs ++ high)) b.id b.top id) × (safe_in (together cs ++ new) id ≡ put (safe_in (together cs ++ high)) b.id b.safe id)
    at id (inl h) =
        let old = high_says cs high id a h in
        let now = high_says cs new id d h in
        (now.0 ∙ s.tops id ∙ put_both (top_in high) (top_in (together cs ++ high)) b.id id b.top (sym old.0), now.1 ∙ s.safes id ∙ put_both (safe_in high) (safe_in (together cs ++ high)) b.id id b.safe (sym old.1))
    at id (inr l) =
        let away : id ≢ b.id = omega arith in
        let old = low_says cs high id a l in
        let now = low_says cs new id d l in
        (now.0 ∙ sym old.0 ∙ sym (put_away (top_in (together cs ++ high)) b.id id b.top away), now.1 ∙ sym old.1 ∙ sym (put_away (safe_in (together cs ++ high)) b.id id b.safe away))

-- the same in each chunk
pub same_chunks : (cs ds : Chunks) (high : List Bound) → AreChunks cs high → length ds ≤ 128 → SameChunks cs ds → AreChunks ds high
same_chunks cs ds high a few h = record { few = few; chunk = λ k. subst (IsChunk k) (h k) (a.chunk k); normal = a.normal; quiet = a.quiet }

pub same_parts : (cs ds : Chunks) (high others : List Bound) → AreChunks cs high → AreChunks ds others → SameChunks cs ds → high ≡ others → together cs ++ high ≡ together ds ++ others
same_parts cs ds high others a d h e = same_bounds 0 (together cs ++ high) (together ds ++ others) (view_normal cs high a) (view_normal ds others d) (λ id. at id (le_cases 4096 id))
  where
    at : (id : ℕ) → (4096 ≤ id) ⊎ (id < 4096) → (top_in (together cs ++ high) id ≡ top_in (together ds ++ others) id) × (safe_in (together cs ++ high) id ≡ safe_in (together ds ++ others) id)
    at id (inl ge) =
        let x = high_says cs high id a ge in
        let y = high_says ds others id d ge in
        (x.0 ∙ ap (λ (xs : List Bound). top_in xs id) e ∙ sym y.0, x.1 ∙ ap (λ (xs : List Bound). safe_in xs id) e ∙ sym y.1)
    at id (inr lt) =
        let x = low_says cs high id a lt in
        let y = low_says ds others id d lt in
        (x.0 ∙ ap (λ (xs : List Bound). top_in xs id) (h (id / 32)) ∙ sym y.0, x.1 ∙ ap (λ (xs : List Bound). safe_in xs id) (h (id / 32)) ∙ sym y.1)

-- an id is another chunk's, or this one's
abbrev pub IsAway : ℕ → ℕ → Type 0
IsAway k id = ((id < 32 * k) ⊎ (32 * k + 32 ≤ id)) ⊎ (128 ≤ k)

pub where_is : (k id : ℕ) → IsAway k id ⊎ ((id < 4096) × (id / 32 ≡ k))
where_is k id = elim (le_cases 128 k) [
  | inl h ↦ inl (inr h)
  | inr few ↦ elim (le_cases (32 * k) id) [
    | inr lt ↦ inl (inl (inl lt))
    | inl lo ↦ elim (le_cases (32 * k + 32) id) [
      | inl ge ↦ inl (inl (inr ge))
      | inr hi ↦ inr (omega arith, omega arith)
    ]
  ]
]

pub away_quiet : (cs : Chunks) (high : List Bound) (k id : ℕ) → AreChunks cs high → IsAway k id → IsQuiet (get_or cs k []) id
away_quiet cs high k id a (inl (inl lt)) = (a.chunk k).below id lt
away_quiet cs high k id a (inl (inr ge)) = (a.chunk k).above id ge
away_quiet cs high k id a (inr h) =
    let few = a.few in
    let none : get_or cs k [] ≡ [] = past_end cs k [] (omega arith) in
    subst (λ (xs : List Bound). IsQuiet xs id) (sym none) (refl, refl)

pub parts_same : (cs ds : Chunks) (high others : List Bound) → AreChunks cs high → AreChunks ds others → together cs ++ high ≡ together ds ++ others → SameChunks cs ds × (high ≡ others)
parts_same cs ds high others a d e = (
  λ k. same_bounds 0 (get_or cs k []) (get_or ds k []) (a.chunk k).normal (d.chunk k).normal (λ id. low k id (where_is k id)),
  same_bounds 0 high others a.normal d.normal (λ id. up id (le_cases 4096 id)),
)
  where
    low : (k id : ℕ) → IsAway k id ⊎ ((id < 4096) × (id / 32 ≡ k)) → (top_in (get_or cs k []) id ≡ top_in (get_or ds k []) id) × (safe_in (get_or cs k []) id ≡ safe_in (get_or ds k []) id)
    low k id (inl away) =
        let x = away_quiet cs high k id a away in
        let y = away_quiet ds others k id d away in
        (x.0 ∙ sym y.0, x.1 ∙ sym y.1)
    low k id (inr h) =
        let x = low_says cs high id a h.0 in
        let y = low_says ds others id d h.0 in
        subst (λ (n : ℕ). (top_in (get_or cs n []) id ≡ top_in (get_or ds n []) id) × (safe_in (get_or cs n []) id ≡ safe_in (get_or ds n []) id)) h.1
        (sym x.0 ∙ ap (λ (xs : List Bound). top_in xs id) e ∙ y.0, sym x.1 ∙ ap (λ (xs : List Bound). safe_in xs id) e ∙ y.1)

    up : (id : ℕ) → (4096 ≤ id) ⊎ (id < 4096) → (top_in high id ≡ top_in others id) × (safe_in high id ≡ safe_in others id)
    up id (inl ge) =
        let x = high_says cs high id a ge in
        let y = high_says ds others id d ge in
        (sym x.0 ∙ ap (λ (xs : List Bound). top_in xs id) e ∙ y.0, sym x.1 ∙ ap (λ (xs : List Bound). safe_in xs id) e ∙ y.1)
    up id (inr lt) =
        let x = a.quiet id lt in
        let y = d.quiet id lt in
        (x.0 ∙ sym y.0, x.1 ∙ sym y.1)

-- bounds joined with themselves
max_itself : (n : ℕ) → n ≡ max n n
max_itself n = omega arith

lesser_itself : (o : Option ℕ) → o ≡ lesser o o
lesser_itself None = refl
lesser_itself (Some n) = ap Some (omega arith)

pub joined_with_itself : (xs : List Bound) → IsNormal xs → AreJoined xs xs xs
joined_with_itself xs n = record { normal = n; tops = λ id. max_itself (top_in xs id); safes = λ id. lesser_itself (safe_in xs id) }
