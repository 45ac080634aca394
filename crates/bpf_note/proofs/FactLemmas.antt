-- What a note says once one of its parts is new.
use Rattle.std.proofs.Common.{◌≡◌, ◌≢◌, ℕ, zero, suc, ◌+◌, ◌*◌, ◌/◌, ◌%◌, ◌<◌, ◌≤◌, Bool, true, false, ◌&&◌, ◌||◌, refl, Option, None, List, [], ◌∷◌, nat_eq, sym, ap, ◌∙◌, arith, cond, set, length, get_or, map, ◌⊎◌, inl, inr}
use Rattle.std.specs.Prelude.{slice_index_or, option_map}
use Rattle.std.proofs.lemmas.Bool.Decides.{nat_tests}
use Rattle.std.proofs.lemmas.List.{get_or-set_same, get_or-set_other}
use Rattle.std.specs.Prelude.{Result, Ok, Err, OnOk}
use mathlib.Core.Path.{fun_ext}
use Rattle.bpf_note.specs.declared.val.Val.{Val}
use Rattle.bpf_note.specs.declared.val.Val.TheVariants.{Unset}
use Rattle.bpf_note.specs.declared.slot.Slot.{Slot}
use Rattle.bpf_note.specs.declared.slot.Slot.TheVariants.{Kept, Bytes}
use Rattle.bpf_note.specs.declared.bound.Bound.{Bound}
use Rattle.bpf_note.specs.State.{put}
use Rattle.bpf_note.specs.Facts.{Facts, with_kept, with_byte, with_top, with_safe, with_id, with_each, forgotten, entry, entry_reg}
use Rattle.bpf_note.specs.Join.{joined, joined_value, joined_kept}
use Rattle.bpf_note.specs.Parts.{Noted, facts, no_bytes, kept_of, set_of, top_in, safe_in, IsNormal}
use Rattle.bpf_note.specs.Slots.{all_bytes, set_bytes, slot_with, both, joined_slot, IsCovered}
use Rattle.bpf_note.specs.Bounds.{IsSet, AreJoined}
use Rattle.bpf_note.proofs.PlaceLemmas.{past_end, le_cases, same_places}
use Rattle.bpf_note.proofs.BoundLemmas.{same_bounds}

abbrev pub noted : List Val → List Slot → List Bound → Noted
noted rs ss bs = record { regs = rs; slots = ss; bounds = bs }

-- facts are equal part by part
made : {r r' : ℕ → Val} {k k' : ℕ → Option Val} {s s' : ℕ → Bool} {t t' : ℕ → ℕ} {f f' : ℕ → Option ℕ} → r ≡ r' → k ≡ k' → s ≡ s' → t ≡ t' → f ≡ f' →
    (let x : Facts = record { reg = r; kept = k; set = s; top = t; safe = f } in x) ≡ (let y : Facts = record { reg = r'; kept = k'; set = s'; top = t'; safe = f' } in y)
made p q u v w = λ i. record { reg = p i; kept = q i; set = u i; top = v i; safe = w i }

got_set : {A : Type 0} (xs : List A) (j k : ℕ) (x d : A) → j < length xs → get_or (set xs j x) k d ≡ cond (nat_eq k j) x (get_or xs k d)
got_set {A = A} xs j k x d h = by (nat_eq k j) refl
  where
    by : (b : Bool) → b ≡ nat_eq k j → get_or (set xs j x) k d ≡ cond b x (get_or xs k d)
    by true e = let at : k ≡ j = grind (arith, nat_tests) in ap (λ (i : ℕ). get_or (set xs j x) i d) at ∙ get_or-set_same xs j x d h
    by false e = let ne : k ≢ j = grind (arith, nat_tests) in get_or-set_other xs j k x d ne

kept_cond : (b : Bool) (x y : Slot) → kept_of (cond b x y) ≡ cond b (kept_of x) (kept_of y)
kept_cond true x y = refl
kept_cond false x y = refl

-- a slot keeps a value
set_kept : (b : Bool) (v : Val) (y : Slot) (r : ℕ) → set_of (cond b (Kept v) y) r ≡ (b || set_of y r)
set_kept true v y r = refl
set_kept false v y r = refl

pub facts_kept : (rs : List Val) (ss : List Slot) (bs : List Bound) (j i : ℕ) (v : Val) → i ≡ j → j < length ss → facts (noted rs (set ss i (Kept v)) bs) ≡ with_kept (facts (noted rs ss bs)) j v
unfolding facts
facts_kept rs ss bs j i v e h = ap (λ (i : ℕ). facts (noted rs (set ss i (Kept v)) bs)) e ∙ made
    refl
    (fun_ext (λ k. ap kept_of (got_set ss j k (Kept v) no_bytes h) ∙ kept_cond (nat_eq k j) (Kept v) (get_or ss k no_bytes)))
    (fun_ext (λ k. ap (λ (s : Slot). set_of s (k % 8)) (got_set ss j (k / 8) (Kept v) no_bytes h) ∙ set_kept (nat_eq (k / 8) j) v (get_or ss (k / 8) no_bytes) (k % 8)))
    refl refl

-- a stack byte is set
set_byte : (old new : Slot) (i k : ℕ) (b : Bool) → b ≡ nat_eq (k / 8) (i / 8) → ((r : ℕ) → r < 8 → set_of new r ≡ put (set_of old) (i % 8) true r) → (y : Slot) → (k / 8 ≡ i / 8 → y ≡ old) →
    set_of (cond b new y) (k % 8) ≡ cond (nat_eq k i) true (set_of y (k % 8))
set_byte old new i k true e h y o =
    let at : k / 8 ≡ i / 8 = grind (arith, nat_tests) in
    h (k % 8) (omega arith) ∙ same (nat_eq (k % 8) (i % 8)) (nat_eq k i) refl refl at
    ∙ ap (λ (z : Slot). cond (nat_eq k i) true (set_of z (k % 8))) (sym (o at))
  where
    same : (c d : Bool) → c ≡ nat_eq (k % 8) (i % 8) → d ≡ nat_eq k i → k / 8 ≡ i / 8 → cond c true (set_of old (k % 8)) ≡ cond d true (set_of old (k % 8))
    same true true f g at = refl
    same false false f g at = refl
    same true false f g at =
        let rest : k % 8 ≡ i % 8 = grind (arith, nat_tests) in
        let ne : k ≢ i = grind (arith, nat_tests) in
        absurd (omega arith)
    same false true f g at =
        let rest : k % 8 ≢ i % 8 = grind (arith, nat_tests) in
        let eq : k ≡ i = grind (arith, nat_tests) in
        absurd (rest (ap (λ (z : ℕ). z % 8) eq))
set_byte old new i k false e h y o =
    let ne : k ≢ i = (λ eq. let apart : k / 8 ≢ i / 8 = grind (arith, nat_tests) in apart (ap (λ (z : ℕ). z / 8) eq)) in
    other (nat_eq k i) refl ne
  where
    other : (d : Bool) → d ≡ nat_eq k i → k ≢ i → set_of y (k % 8) ≡ cond d true (set_of y (k % 8))
    other true f ne = absurd (ne (grind (arith, nat_tests)))
    other false f ne = refl

pub facts_byte : (rs : List Val) (ss : List Slot) (bs : List Bound) (i at : ℕ) (new : Slot) → at ≡ i / 8 → at < length ss → kept_of new ≡ None →
    ((r : ℕ) → r < 8 → set_of new r ≡ put (set_of (get_or ss at no_bytes)) (i % 8) true r) → facts (noted rs (set ss at new) bs) ≡ with_byte (facts (noted rs ss bs)) i
unfolding facts
facts_byte rs ss bs i at new e h none bits =
    let old : Slot = get_or ss (i / 8) no_bytes in
    let inside : i / 8 < length ss = omega arith in
    let here : (r : ℕ) → r < 8 → set_of new r ≡ put (set_of (get_or ss (i / 8) no_bytes)) (i % 8) true r = λ r lt. bits r lt ∙ ap (λ (p : ℕ). put (set_of (get_or ss p no_bytes)) (i % 8) true r) e in
    ap (λ (p : ℕ). facts (noted rs (set ss p new) bs)) e ∙ made
    refl
    (fun_ext (λ k. ap kept_of (got_set ss (i / 8) k new no_bytes inside) ∙ kept_cond (nat_eq k (i / 8)) new (get_or ss k no_bytes)
    ∙ ap (λ (o : Option Val). cond (nat_eq k (i / 8)) o (kept_of (get_or ss k no_bytes))) none))
    (fun_ext (λ k. ap (λ (s : Slot). set_of s (k % 8)) (got_set ss (i / 8) (k / 8) new no_bytes inside)
    ∙ set_byte (get_or ss (i / 8) no_bytes) new i k (nat_eq (k / 8) (i / 8)) refl here (get_or ss (k / 8) no_bytes) (λ at. ap (λ (p : ℕ). get_or ss p no_bytes) at)))
    refl refl

-- what is said of an id is new
unchanged : {A : Type 0} (f : ℕ → A) (id : ℕ) (x : A) → x ≡ f id → put f id x ≡ f
unchanged {A = A} f id x e = fun_ext (λ i. by i (nat_eq i id) refl)
  where
    by : (i : ℕ) (b : Bool) → b ≡ nat_eq i id → cond b x (f i) ≡ f i
    by i true h = let at : i ≡ id = grind (arith, nat_tests) in e ∙ ap f (sym at)
    by i false h = refl

pub facts_top : (rs : List Val) (ss : List Slot) (old new : List Bound) (b : Bound) → IsSet old b new → b.safe ≡ safe_in old b.id → facts (noted rs ss new) ≡ with_top (facts (noted rs ss old)) b.id b.top
unfolding facts
facts_top rs ss old new b s e = made refl refl refl (fun_ext s.tops) (fun_ext s.safes ∙ unchanged (safe_in old) b.id b.safe e)

pub facts_safe : (rs : List Val) (ss : List Slot) (old new : List Bound) (b : Bound) → IsSet old b new → b.top ≡ top_in old b.id → facts (noted rs ss new) ≡ with_safe (facts (noted rs ss old)) b.id b.safe
unfolding facts
facts_safe rs ss old new b s e = made refl refl refl (fun_ext s.tops ∙ unchanged (top_in old) b.id b.top e) (fun_ext s.safes)

-- each value is replaced
pub kept_with : (f : Val → Val) (s : Slot) → kept_of (slot_with f s) ≡ option_map f (kept_of s)
kept_with f (Kept v) = refl
kept_with f (Bytes bytes) = refl

pub set_with : (f : Val → Val) (s : Slot) (k : ℕ) → set_of (slot_with f s) k ≡ set_of s k
set_with f (Kept v) k = refl
set_with f (Bytes bytes) k = refl

pub facts_each : (f : Val → Val) (rs rs' : List Val) (ss ss' : List Slot) (bs : List Bound) → ((k : ℕ) → slice_index_or rs' k Unset ≡ f (slice_index_or rs k Unset)) →
    ((j : ℕ) → slice_index_or ss' j no_bytes ≡ slot_with f (slice_index_or ss j no_bytes)) → facts (noted rs' ss' bs) ≡ with_each (facts (noted rs ss bs)) f
unfolding facts
facts_each f rs rs' ss ss' bs h g = made
    (fun_ext h)
    (fun_ext (λ j. ap kept_of (g j) ∙ kept_with f (slice_index_or ss j no_bytes)))
    (fun_ext (λ i. ap (λ (s : Slot). set_of s (i % 8)) (g (i / 8)) ∙ set_with f (slice_index_or ss (i / 8) no_bytes) (i % 8)))
    refl refl

pub facts_id : (rs rs' : List Val) (ss ss' : List Slot) (old new : List Bound) (b : Bound) → ((k : ℕ) → slice_index_or rs' k Unset ≡ forgotten b.id (slice_index_or rs k Unset)) →
    ((j : ℕ) → slice_index_or ss' j no_bytes ≡ slot_with (forgotten b.id) (slice_index_or ss j no_bytes)) → IsSet old b new → b.safe ≡ None →
    facts (noted rs' ss' new) ≡ with_id (facts (noted rs ss old)) b.id b.top
unfolding facts
facts_id rs rs' ss ss' old new b h g s e = made
    (fun_ext h)
    (fun_ext (λ j. ap kept_of (g j) ∙ kept_with (forgotten b.id) (slice_index_or ss j no_bytes)))
    (fun_ext (λ i. ap (λ (s : Slot). set_of s (i % 8)) (g (i / 8)) ∙ set_with (forgotten b.id) (slice_index_or ss (i / 8) no_bytes) (i % 8)))
    (fun_ext s.tops)
    (fun_ext (λ i. s.safes i ∙ ap (λ (o : Option ℕ). cond (nat_eq i b.id) o (safe_in old i)) e))

no_byte : (k : ℕ) → set_of no_bytes k ≡ false
no_byte zero = refl
no_byte (suc zero) = refl
no_byte (suc (suc zero)) = refl
no_byte (suc (suc (suc zero))) = refl
no_byte (suc (suc (suc (suc zero)))) = refl
no_byte (suc (suc (suc (suc (suc zero))))) = refl
no_byte (suc (suc (suc (suc (suc (suc zero)))))) = refl
no_byte (suc (suc (suc (suc (suc (suc (suc zero))))))) = refl
no_byte (suc (suc (suc (suc (suc (suc (suc (suc k)))))))) = refl

pub facts_entry : (rs : List Val) (ss : List Slot) (bs : List Bound) → ((k : ℕ) → slice_index_or rs k Unset ≡ entry_reg k) → ((j : ℕ) → slice_index_or ss j no_bytes ≡ no_bytes) → bs ≡ [] → facts (noted rs ss bs) ≡ entry
unfolding facts
facts_entry rs ss bs h g e = made
    (fun_ext h)
    (fun_ext (λ j. ap kept_of (g j)))
    (fun_ext (λ i. ap (λ (s : Slot). set_of s (i % 8)) (g (i / 8)) ∙ no_byte (i % 8)))
    (ap top_in e)
    (ap safe_in e)

-- two notes are joined
nth_mask : (F : ℕ → Bool) (b : ℕ) → b < 8 → slice_index_or (map F (0 ∷ 1 ∷ 2 ∷ 3 ∷ 4 ∷ 5 ∷ 6 ∷ 7 ∷ [])) b false ≡ F b
nth_mask F zero h = refl
nth_mask F (suc zero) h = refl
nth_mask F (suc (suc zero)) h = refl
nth_mask F (suc (suc (suc zero))) h = refl
nth_mask F (suc (suc (suc (suc zero)))) h = refl
nth_mask F (suc (suc (suc (suc (suc zero))))) h = refl
nth_mask F (suc (suc (suc (suc (suc (suc zero)))))) h = refl
nth_mask F (suc (suc (suc (suc (suc (suc (suc zero))))))) h = refl
nth_mask F (suc (suc (suc (suc (suc (suc (suc (suc b)))))))) h = absurd (omega arith)

nth_all : (b : ℕ) → b < 8 → slice_index_or all_bytes b false ≡ true
nth_all b h = nth_mask (λ k. true) b h

pub set_read : (s : Slot) (k : ℕ) → k < 8 → slice_index_or (set_bytes s) k false ≡ set_of s k
set_read (Kept v) k h = nth_all k h
set_read (Bytes bytes) k h = refl

pub both_read : (xs ys : List Bool) (k : ℕ) → k < 8 → slice_index_or (both xs ys) k false ≡ (slice_index_or xs k false && slice_index_or ys k false)
both_read xs ys k h = nth_mask (λ b. slice_index_or xs b false && slice_index_or ys b false) k h

mask_read : (a b : Slot) (k : ℕ) → k < 8 → slice_index_or (both (set_bytes a) (set_bytes b)) k false ≡ (set_of a k && set_of b k)
mask_read a b k h = both_read (set_bytes a) (set_bytes b) k h ∙ ap (λ (x : Bool). x && slice_index_or (set_bytes b) k false) (set_read a k h) ∙ ap (λ (x : Bool). set_of a k && x) (set_read b k h)

pub set_joined : (a b : Slot) (k : ℕ) → k < 8 → set_of (joined_slot a b) k ≡ (set_of a k && set_of b k)
set_joined (Kept v) (Kept w) k h = refl
set_joined (Kept v) (Bytes ys) k h = mask_read (Kept v) (Bytes ys) k h
set_joined (Bytes xs) (Kept w) k h = mask_read (Bytes xs) (Kept w) k h
set_joined (Bytes xs) (Bytes ys) k h = mask_read (Bytes xs) (Bytes ys) k h

pub kept_joined : (a b : Slot) → kept_of (joined_slot a b) ≡ joined_kept (kept_of a) (kept_of b)
kept_joined (Kept v) (Kept w) = refl
kept_joined (Kept v) (Bytes ys) = refl
kept_joined (Bytes xs) (Kept w) = refl
kept_joined (Bytes xs) (Bytes ys) = refl

pub facts_joined : (n a b : Noted) → ((k : ℕ) → slice_index_or n.regs k Unset ≡ joined_value (slice_index_or a.regs k Unset) (slice_index_or b.regs k Unset)) →
    ((j : ℕ) → slice_index_or n.slots j no_bytes ≡ joined_slot (slice_index_or a.slots j no_bytes) (slice_index_or b.slots j no_bytes)) →
    AreJoined a.bounds b.bounds n.bounds → facts n ≡ joined (facts a) (facts b)
unfolding facts
facts_joined n a b regs slots bounds = made
    (fun_ext regs)
    (fun_ext (λ j. ap kept_of (slots j) ∙ kept_joined (slice_index_or a.slots j no_bytes) (slice_index_or b.slots j no_bytes)))
    (fun_ext (λ i. ap (λ (s : Slot). set_of s (i % 8)) (slots (i / 8)) ∙ set_joined (slice_index_or a.slots (i / 8) no_bytes) (slice_index_or b.slots (i / 8) no_bytes) (i % 8) (omega arith)))
    (fun_ext bounds.tops)
    (fun_ext bounds.safes)

pub on_ok : {A E P Q : Type 0} (r : Result A E) → (P → Q) → OnOk r P → OnOk r Q
on_ok (Ok x) f h = f h
on_ok (Err e) f h = tt

-- the first note is the join of the two
pub covers_all : (a b : Noted) → ((k : ℕ) → joined_value (slice_index_or a.regs k Unset) (slice_index_or b.regs k Unset) ≡ slice_index_or a.regs k Unset) →
    ((j : ℕ) → IsCovered (slice_index_or a.slots j no_bytes) (slice_index_or b.slots j no_bytes)) → AreJoined a.bounds b.bounds a.bounds → joined (facts a) (facts b) ≡ facts a
unfolding facts
covers_all a b regs slots bounds = made
    (fun_ext regs)
    (fun_ext (λ j. (slots j).kept))
    (fun_ext (λ i. (slots (i / 8)).set (i % 8) (omega arith)))
    (fun_ext (λ id. sym (bounds.tops id)))
    (fun_ext (λ id. sym (bounds.safes id)))

pub registers_covered : (a b : Noted) → joined (facts a) (facts b) ≡ facts a → (k : ℕ) → joined_value (slice_index_or a.regs k Unset) (slice_index_or b.regs k Unset) ≡ slice_index_or a.regs k Unset
unfolding facts
registers_covered a b e k = ap (λ (f : Facts). f.reg k) e

at_byte : (f : ℕ → ℕ → Bool) (j k : ℕ) → k < 8 → f ((8 * j + k) / 8) ((8 * j + k) % 8) ≡ f j k
at_byte f j k lt =
    let p : (8 * j + k) / 8 ≡ j = omega arith in
    let q : (8 * j + k) % 8 ≡ k = omega arith in
    ap (λ (x : ℕ). f x ((8 * j + k) % 8)) p ∙ ap (f j) q

pub slots_covered : (a b : Noted) → joined (facts a) (facts b) ≡ facts a → (j : ℕ) → IsCovered (slice_index_or a.slots j no_bytes) (slice_index_or b.slots j no_bytes)
unfolding facts
slots_covered a b e j = record {
  kept = ap (λ (f : Facts). f.kept j) e;
  set = λ k lt.
      sym (at_byte (λ x y. set_of (slice_index_or a.slots x no_bytes) y && set_of (slice_index_or b.slots x no_bytes) y) j k lt)
      ∙ ap (λ (f : Facts). f.set (8 * j + k)) e
      ∙ at_byte (λ x y. set_of (slice_index_or a.slots x no_bytes) y) j k lt;
}

pub bounds_covered : (a b : Noted) → IsNormal a.bounds → joined (facts a) (facts b) ≡ facts a → AreJoined a.bounds b.bounds a.bounds
unfolding facts
bounds_covered a b n e = record { normal = n; tops = λ id. sym (ap (λ (f : Facts). f.top id) e); safes = λ id. sym (ap (λ (f : Facts). f.safe id) e) }

-- slots and notes that say the same are equal
pub same_bytes : (xs ys : List Bool) → length xs ≡ 8 → length ys ≡ 8 → ((k : ℕ) → k < 8 → slice_index_or xs k false ≡ slice_index_or ys k false) → xs ≡ ys
same_bytes xs ys l m h = same_places xs ys false (l ∙ sym m) (λ k. by k (le_cases 8 k))
  where
    by : (k : ℕ) → (8 ≤ k) ⊎ (k < 8) → slice_index_or xs k false ≡ slice_index_or ys k false
    by k (inl past) = past_end xs k false (omega arith) ∙ sym (past_end ys k false (omega arith))
    by k (inr inside) = h k inside

same_slot : (s t : Slot) → length (set_bytes s) ≡ 8 → length (set_bytes t) ≡ 8 → kept_of s ≡ kept_of t → ((k : ℕ) → k < 8 → set_of s k ≡ set_of t k) → s ≡ t
same_slot (Kept v) (Kept w) l m e h = cc
same_slot (Kept v) (Bytes ys) l m e h = absurd (cc)
same_slot (Bytes xs) (Kept w) l m e h = absurd (cc)
same_slot (Bytes xs) (Bytes ys) l m e h = ap Bytes (same_bytes xs ys l m h)

same_noted : (a b : Noted) → a.regs ≡ b.regs → a.slots ≡ b.slots → a.bounds ≡ b.bounds → a ≡ b
same_noted a b p q r = λ i. record { regs = p i; slots = q i; bounds = r i }

pub same_notes : (a b : Noted) → length a.regs ≡ length b.regs → length a.slots ≡ length b.slots →
    ((j : ℕ) → length (set_bytes (slice_index_or a.slots j no_bytes)) ≡ 8) → ((j : ℕ) → length (set_bytes (slice_index_or b.slots j no_bytes)) ≡ 8) → IsNormal a.bounds → IsNormal b.bounds → facts a ≡ facts b → a ≡ b
unfolding facts
same_notes a b rs ss la lb na nb e = same_noted a b
    (same_places a.regs b.regs Unset rs (λ k. ap (λ (f : Facts). f.reg k) e))
    (same_places a.slots b.slots no_bytes ss (λ j. same_slot (slice_index_or a.slots j no_bytes) (slice_index_or b.slots j no_bytes) (la j) (lb j) (ap (λ (f : Facts). f.kept j) e)
    (λ k lt. sym (at_byte (λ x y. set_of (slice_index_or a.slots x no_bytes) y) j k lt) ∙ ap (λ (f : Facts). f.set (8 * j + k)) e ∙ at_byte (λ x y. set_of (slice_index_or b.slots x no_bytes) y) j k lt)))
    (same_bounds 0 a.bounds b.bounds na nb (λ id. (ap (λ (f : Facts). f.top id) e, ap (λ (f : Facts). f.safe id) e)))
