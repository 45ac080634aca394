-- Lists of bounds: looking an id up, and setting what is said of one.
use Rattle.std.proofs.Common.{◌≡◌, ◌≢◌, ℕ, zero, suc, ◌+◌, ◌<◌, ◌≤◌, Bool, true, false, refl, Option, Some, None, List, [], ◌∷◌, ◌++◌, nat_eq, sym, ap, ◌∙◌, arith, cond, subst, set, length, take, drop, get_or, ◌⊎◌, inl, inr}
use Rattle.std.specs.Prelude.{nat_lt, ◌==◌, ◌||◌, not, is_some, slice_get}
use Rattle.std.proofs.lemmas.Bool.Decides.{nat_tests}
use Rattle.std.proofs.lemmas.List.{take-append-drop}
use Rattle.std.proofs.Math.Seq.{drop-cons}
use Rattle.bpf_note.specs.declared.bound.Bound.{Bound}
use Rattle.bpf_note.specs.State.{put}
use Rattle.bpf_note.specs.Parts.{top_in, safe_in, Says, IsNormal, IsNormalFrom}
use Rattle.bpf_note.specs.Bounds.{place_of, has_id, IsSet, says, with_said}

pub says_it : (b : Bound) → says b ≡ true → Says b
says_it b e = by (b.top == 0) b.safe refl refl e
  where
    by : (z : Bool) (s : Option ℕ) → z ≡ (b.top == 0) → s ≡ b.safe → (not z || is_some s) ≡ true → Says b
    by true None f g e = absurd (let wrong : false ≡ true = e in cc)
    by true (Some x) f g e = inr (λ same. let wrong : Some x ≡ None = g ∙ same in cc)
    by false s f g e = inl (grind (arith, nat_tests))

pub says_nothing : (b : Bound) → says b ≡ false → (b.top ≡ 0) × (b.safe ≡ None)
says_nothing b e = by (b.top == 0) b.safe refl refl e
  where
    by : (z : Bool) (s : Option ℕ) → z ≡ (b.top == 0) → s ≡ b.safe → (not z || is_some s) ≡ false → (b.top ≡ 0) × (b.safe ≡ None)
    by true None f g e = (grind (arith, nat_tests), sym g)
    by true (Some x) f g e = absurd (let wrong : true ≡ false = e in cc)
    by false s f g e = absurd (let wrong : true ≡ false = e in cc)

pub normal_lower : (least lower : ℕ) (xs : List Bound) → lower ≤ least → IsNormalFrom least xs → IsNormalFrom lower xs
normal_lower least lower [] h n = tt
normal_lower least lower (x ∷ xs) h n = (omega arith, n.1, n.2)

-- an id below all others
pub absent : (least : ℕ) (xs : List Bound) (id : ℕ) → IsNormalFrom least xs → id < least → (top_in xs id ≡ 0) × (safe_in xs id ≡ None)
absent least [] id n h = (refl, refl)
absent least (x ∷ xs) id n h = by (nat_eq id x.id) refl (absent (x.id + 1) xs id n.2 (omega arith))
  where
    by : (here : Bool) → here ≡ nat_eq id x.id → (top_in xs id ≡ 0) × (safe_in xs id ≡ None) → (cond here x.top (top_in xs id) ≡ 0) × (cond here x.safe (safe_in xs id) ≡ None)
    by true e ih = absurd (grind (arith, nat_tests))
    by false e ih = ih

-- looking up in bounds with one more in front
pub said_normal : (least : ℕ) (b : Bound) (xs : List Bound) → least < b.id + 1 → IsNormalFrom (b.id + 1) xs → IsNormalFrom least (with_said b xs)
said_normal least b xs h n = by (says b) refl
  where
    by : (s : Bool) → s ≡ says b → IsNormalFrom least (cond s (b ∷ xs) xs)
    by true e = (h, says_it b (sym e), n)
    by false e = normal_lower (b.id + 1) least xs (omega arith) n

pub said_lookup : (b : Bound) (xs : List Bound) (id : ℕ) → IsNormalFrom (b.id + 1) xs →
    (top_in (with_said b xs) id ≡ cond (nat_eq id b.id) b.top (top_in xs id)) × (safe_in (with_said b xs) id ≡ cond (nat_eq id b.id) b.safe (safe_in xs id))
said_lookup b xs id n = by (says b) refl
  where
    at : (here : Bool) → here ≡ nat_eq id b.id → false ≡ says b → (top_in xs id ≡ cond here b.top (top_in xs id)) × (safe_in xs id ≡ cond here b.safe (safe_in xs id))
    at true e f =
        let none = absent (b.id + 1) xs id n (grind (arith, nat_tests)) in
        let nothing = says_nothing b (sym f) in
        (none.0 ∙ sym nothing.0, none.1 ∙ sym nothing.1)
    at false e f = (refl, refl)

    by : (s : Bool) → s ≡ says b → (top_in (cond s (b ∷ xs) xs) id ≡ cond (nat_eq id b.id) b.top (top_in xs id)) × (safe_in (cond s (b ∷ xs) xs) id ≡ cond (nat_eq id b.id) b.safe (safe_in xs id))
    by true e = (refl, refl)
    by false e = at (nat_eq id b.id) refl e

pub record IsSetFrom (least : ℕ) (old : List Bound) (b : Bound) (new : List Bound) : Type 0 where
  pub normal : IsNormalFrom least new
  pub tops : (id : ℕ) → top_in new id ≡ put (top_in old) b.id b.top id
  pub safes : (id : ℕ) → safe_in new id ≡ put (safe_in old) b.id b.safe id

put_again : {A : Type 0} (here there : Bool) (u v w : A) → (there ≡ true → here ≡ true) → cond here u v ≡ cond here u (cond there w v)
put_again true there u v w h = refl
put_again false true u v w h = let wrong : false ≡ true = h refl in absurd (cc)
put_again false false u v w h = refl

same_id : (id a b : ℕ) → a ≡ b → nat_eq id a ≡ true → nat_eq id b ≡ true
same_id id a b e h = cc

-- the first of the bounds is of that id
pub set_first : (b y : Bound) (ys : List Bound) → y.id ≡ b.id → IsNormalFrom (y.id + 1) ys → IsSetFrom b.id (y ∷ ys) b (with_said b ys)
set_first b y ys e n =
    let m : IsNormalFrom (b.id + 1) ys = subst (λ (i : ℕ). IsNormalFrom (i + 1) ys) e n in
    record {
      normal = said_normal b.id b ys (omega arith) m;
      tops = λ id. (said_lookup b ys id m).0 ∙ put_again (nat_eq id b.id) (nat_eq id y.id) b.top (top_in ys id) y.top (same_id id y.id b.id e);
      safes = λ id. (said_lookup b ys id m).1 ∙ put_again (nat_eq id b.id) (nat_eq id y.id) b.safe (safe_in ys id) y.safe (same_id id y.id b.id e);
    }

-- none of the bounds is of that id
pub set_none : (b : Bound) (ys : List Bound) → IsNormalFrom (b.id + 1) ys → IsSetFrom b.id ys b (with_said b ys)
set_none b ys m = record {
  normal = said_normal b.id b ys (omega arith) m;
  tops = λ id. (said_lookup b ys id m).0;
  safes = λ id. (said_lookup b ys id m).1;
}

-- normal bounds, all of lesser ids
abbrev pub IsFront : ℕ → ℕ → List Bound → Type 0
IsFront least most [] = least ≤ most
IsFront least most (b ∷ bs) = (least < b.id + 1) × Says b × IsFront (b.id + 1) most bs

pub front_rises : (least most : ℕ) (xs : List Bound) → IsFront least most xs → least ≤ most
front_rises least most [] f = f
front_rises least most (x ∷ xs) f = let h : x.id + 1 ≤ most = front_rises (x.id + 1) most xs f.2 in omega arith

swapped : {A : Type 0} (here there : Bool) (u v w z : A) → (here ≡ true → there ≡ true → ⊥) → z ≡ cond there w v → cond here u z ≡ cond there w (cond here u v)
swapped true true u v w z h e = absurd (h refl refl)
swapped true false u v w z h e = refl
swapped false true u v w z h e = e
swapped false false u v w z h e = e

apart : (id a b : ℕ) → a < b → nat_eq id a ≡ true → nat_eq id b ≡ true → ⊥
apart id a b h e f = grind (arith, nat_tests)

pub spliced : (least : ℕ) (b : Bound) (front old new : List Bound) → IsFront least b.id front → IsSetFrom b.id old b new → IsSetFrom least (front ++ old) b (front ++ new)
spliced least b [] old new f s = record { normal = normal_lower b.id least new f s.normal; tops = s.tops; safes = s.safes }
spliced least b (x ∷ xs) old new f s =
    let ih = spliced (x.id + 1) b xs old new f.2 s in
    let lt : x.id + 1 ≤ b.id = front_rises (x.id + 1) b.id xs f.2 in
    record {
      normal = (f.0, f.1, ih.normal);
      tops = λ id. swapped (nat_eq id x.id) (nat_eq id b.id) x.top (top_in (xs ++ old) id) b.top (top_in (xs ++ new) id) (apart id x.id b.id (omega arith)) (ih.tops id);
      safes = λ id. swapped (nat_eq id x.id) (nat_eq id b.id) x.safe (safe_in (xs ++ old) id) b.safe (safe_in (xs ++ new) id) (apart id x.id b.id (omega arith)) (ih.safes id);
    }

-- the bounds before and from the place of an id
pub placed : (least id : ℕ) (xs : List Bound) → least ≤ id → IsNormalFrom least xs → IsFront least id (take (place_of xs id) xs) × IsNormalFrom id (drop (place_of xs id) xs)
placed least id [] h n = (h, tt)
placed least id (x ∷ xs) h n = by (nat_lt x.id id) refl (λ lt. placed (x.id + 1) id xs lt n.2)
  where
    by : (less : Bool) → less ≡ nat_lt x.id id → (x.id + 1 ≤ id → IsFront (x.id + 1) id (take (place_of xs id) xs) × IsNormalFrom id (drop (place_of xs id) xs)) →
        IsFront least id (take (cond less (suc (place_of xs id)) 0) (x ∷ xs)) × IsNormalFrom id (drop (cond less (suc (place_of xs id)) 0) (x ∷ xs))
    by true e ih = let r = ih (grind (arith, nat_tests)) in ((n.0, n.1, r.0), r.1)
    by false e ih = (h, (grind (arith, nat_tests), n.1, n.2))

whole : (p : ℕ) (xs : List Bound) → take p xs ++ drop p xs ≡ xs
whole p xs = take-append-drop p xs

-- where the bound at the place is of the id
pub set_found : (xs : List Bound) (b d : Bound) → IsNormal xs → place_of xs b.id < length xs → (get_or xs (place_of xs b.id) d).id ≡ b.id →
    IsSet xs b (take (place_of xs b.id) xs ++ with_said b (drop (suc (place_of xs b.id)) xs))
set_found xs b d n lt e =
    let p : ℕ = place_of xs b.id in
    let parts = placed 0 b.id xs (omega arith) n in
    let first : drop p xs ≡ get_or xs p d ∷ drop (suc p) xs = drop-cons xs p d lt in
    let back : IsNormalFrom b.id (get_or xs p d ∷ drop (suc p) xs) = subst (IsNormalFrom b.id) first parts.1 in
    let old : take p xs ++ (get_or xs p d ∷ drop (suc p) xs) ≡ xs = ap (λ (ys : List Bound). take p xs ++ ys) (sym first) ∙ whole p xs in
    let r = spliced 0 b (take p xs) (get_or xs p d ∷ drop (suc p) xs) (with_said b (drop (suc p) xs)) parts.0 (set_first b (get_or xs p d) (drop (suc p) xs) e back.2) in
    let s : IsSetFrom 0 xs b (take p xs ++ with_said b (drop (suc p) xs)) = subst (λ (ys : List Bound). IsSetFrom 0 ys b (take p xs ++ with_said b (drop (suc p) xs))) old r in
    record { normal = s.normal; tops = s.tops; safes = s.safes }

above : (id : ℕ) (xs : List Bound) (d : Bound) → IsNormalFrom id xs → (0 < length xs → (get_or xs 0 d).id ≢ id) → IsNormalFrom (id + 1) xs
above id [] d n h = tt
above id (x ∷ xs) d n h = let ne : x.id ≢ id = h (omega arith) in (omega arith, n.1, n.2)

pub first_at : (xs : List Bound) (p : ℕ) (d : Bound) → get_or (drop p xs) 0 d ≡ get_or xs p d
first_at xs zero d = refl
first_at [] (suc p) d = refl
first_at (x ∷ xs) (suc p) d = first_at xs p d

some_left : (xs : List Bound) (p : ℕ) → 0 < length (drop p xs) → p < length xs
some_left xs zero h = h
some_left [] (suc p) h = absurd (omega arith)
some_left (x ∷ xs) (suc p) h = let ih = some_left xs p h in omega arith

-- where no bound is of the id
pub set_missing : (xs : List Bound) (b d : Bound) → IsNormal xs → (place_of xs b.id < length xs → (get_or xs (place_of xs b.id) d).id ≢ b.id) →
    IsSet xs b (take (place_of xs b.id) xs ++ with_said b (drop (place_of xs b.id) xs))
set_missing xs b d n h =
    let p : ℕ = place_of xs b.id in
    let parts = placed 0 b.id xs (omega arith) n in
    let back : IsNormalFrom (b.id + 1) (drop p xs) = above b.id (drop p xs) d parts.1 (λ some same. h (some_left xs p some) (ap (λ (y : Bound). y.id) (sym (first_at xs p d)) ∙ same)) in
    let r = spliced 0 b (take p xs) (drop p xs) (with_said b (drop p xs)) parts.0 (set_none b (drop p xs) back) in
    let s : IsSetFrom 0 xs b (take p xs ++ with_said b (drop p xs)) = subst (λ (ys : List Bound). IsSetFrom 0 ys b (take p xs ++ with_said b (drop p xs))) (whole p xs) r in
    record { normal = s.normal; tops = s.tops; safes = s.safes }

-- bounds that say the same are equal
same_bound : (x y : Bound) → x.id ≡ y.id → x.top ≡ y.top → x.safe ≡ y.safe → x ≡ y
same_bound x y a b c = λ i. record { id = a i; top = b i; safe = c i }

pub speaks : (x : Bound) → Says x → x.top ≡ 0 → x.safe ≡ None → ⊥
speaks x (inl h) a b = h a
speaks x (inr h) a b = h b

pub here_is : (x : Bound) (xs : List Bound) → (top_in (x ∷ xs) x.id ≡ x.top) × (safe_in (x ∷ xs) x.id ≡ x.safe)
here_is x xs = by (nat_eq x.id x.id) refl
  where
    by : (b : Bool) → b ≡ nat_eq x.id x.id → (cond b x.top (top_in xs x.id) ≡ x.top) × (cond b x.safe (safe_in xs x.id) ≡ x.safe)
    by true e = (refl, refl)
    by false e = absurd (grind (arith, nat_tests))

pub there_is : (x : Bound) (xs : List Bound) (id : ℕ) → x.id ≢ id → (top_in (x ∷ xs) id ≡ top_in xs id) × (safe_in (x ∷ xs) id ≡ safe_in xs id)
there_is x xs id h = by (nat_eq id x.id) refl
  where
    by : (b : Bool) → b ≡ nat_eq id x.id → (cond b x.top (top_in xs id) ≡ top_in xs id) × (cond b x.safe (safe_in xs id) ≡ safe_in xs id)
    by true e = absurd (h (grind (arith, nat_tests)))
    by false e = (refl, refl)

abbrev pub SaySame : List Bound → List Bound → Type 0
SaySame xs ys = (id : ℕ) → (top_in xs id ≡ top_in ys id) × (safe_in xs id ≡ safe_in ys id)

first_not_below : (least : ℕ) (x : Bound) (xs ys : List Bound) → Says x → IsNormalFrom least ys → SaySame (x ∷ xs) ys → x.id < least → ⊥
first_not_below least x xs ys s n h lt =
    let none = absent least ys x.id n lt in
    let here = here_is x xs in
    let same = h x.id in
    speaks x s (sym here.0 ∙ same.0 ∙ none.0) (sym here.1 ∙ same.1 ∙ none.1)

flipped : (xs ys : List Bound) → SaySame xs ys → SaySame ys xs
flipped xs ys h = λ id. (sym (h id).0, sym (h id).1)

tails_same : (x y : Bound) (xs ys : List Bound) → x.id ≡ y.id → IsNormalFrom (x.id + 1) xs → IsNormalFrom (y.id + 1) ys → SaySame (x ∷ xs) (y ∷ ys) → SaySame xs ys
tails_same x y xs ys e n m h id = by (nat_eq id x.id) refl
  where
    by : (b : Bool) → b ≡ nat_eq id x.id → (top_in xs id ≡ top_in ys id) × (safe_in xs id ≡ safe_in ys id)
    by true f =
        let at : id ≡ x.id = grind (arith, nat_tests) in
        let nx = absent (x.id + 1) xs id n (omega arith) in
        let ny = absent (y.id + 1) ys id m (omega arith) in
        (nx.0 ∙ sym ny.0, nx.1 ∙ sym ny.1)
    by false f =
        let at : x.id ≢ id = grind (arith, nat_tests) in
        let also : y.id ≢ id = omega arith in
        let tx = there_is x xs id at in
        let ty = there_is y ys id also in
        let same = h id in
        (sym tx.0 ∙ same.0 ∙ ty.0, sym tx.1 ∙ same.1 ∙ ty.1)

order : (a b : ℕ) → (a < b) ⊎ ((b < a) ⊎ (a ≡ b))
order zero zero = inr (inr refl)
order zero (suc b) = inl (omega arith)
order (suc a) zero = inr (inl (omega arith))
order (suc a) (suc b) = elim (order a b) [ inl h ↦ inl (omega arith) | inr h ↦ inr (elim h [ inl g ↦ inl (omega arith) | inr g ↦ inr (omega arith) ]) ]

pub same_bounds : (least : ℕ) (xs ys : List Bound) → IsNormalFrom least xs → IsNormalFrom least ys → SaySame xs ys → xs ≡ ys
same_bounds least [] [] n m h = refl
same_bounds least [] (y ∷ ys) n m h = absurd (first_not_below (y.id + 1) y ys [] m.1 tt (flipped [] (y ∷ ys) h) (omega arith))
same_bounds least (x ∷ xs) [] n m h = absurd (first_not_below (x.id + 1) x xs [] n.1 tt h (omega arith))
same_bounds least (x ∷ xs) (y ∷ ys) n m h = by (order x.id y.id) (λ e. same_bounds (x.id + 1) xs ys n.2 (subst (λ (i : ℕ). IsNormalFrom (i + 1) ys) (sym e) m.2) (tails_same x y xs ys e n.2 m.2 h))
  where
    by : (x.id < y.id) ⊎ ((y.id < x.id) ⊎ (x.id ≡ y.id)) → (x.id ≡ y.id → xs ≡ ys) → x ∷ xs ≡ y ∷ ys
    by (inl lt) ih = absurd (first_not_below y.id x xs (y ∷ ys) n.1 (omega arith, m.1, m.2) h lt)
    by (inr (inl gt)) ih = absurd (first_not_below x.id y ys (x ∷ xs) m.1 (omega arith, n.1, n.2) (flipped (x ∷ xs) (y ∷ ys) h) gt)
    by (inr (inr e)) ih =
        let hx = here_is x xs in
        let hy = here_is y ys in
        let same = h x.id in
        let top : x.top ≡ y.top = sym hx.0 ∙ same.0 ∙ ap (top_in (y ∷ ys)) e ∙ hy.0 in
        let safe : x.safe ≡ y.safe = sym hx.1 ∙ same.1 ∙ ap (safe_in (y ∷ ys)) e ∙ hy.1 in
        let heads : x ≡ y = same_bound x y e top safe in
        let tails : xs ≡ ys = ih e in
        cc

-- the four ways to set what is said of an id
id_there : (xs : List Bound) (p id : ℕ) (d : Bound) → has_id (slice_get xs p) id ≡ true → (p < length xs) × ((get_or xs p d).id ≡ id)
id_there [] p id d e = absurd (let wrong : false ≡ true = e in cc)
id_there (x ∷ xs) zero id d e = (omega arith, grind (arith, nat_tests))
id_there (x ∷ xs) (suc p) id d e = let ih = id_there xs p id d e in (omega arith, ih.1)

id_not_there : (xs : List Bound) (p id : ℕ) (d : Bound) → has_id (slice_get xs p) id ≡ false → p < length xs → (get_or xs p d).id ≢ id
id_not_there [] p id d e lt = absurd (omega arith)
id_not_there (x ∷ xs) zero id d e lt = grind (arith, nat_tests)
id_not_there (x ∷ xs) (suc p) id d e lt = id_not_there xs p id d e (omega arith)

pub place_inside : (xs : List Bound) (id : ℕ) → place_of xs id ≤ length xs
place_inside [] id = omega arith
place_inside (x ∷ xs) id = by (nat_lt x.id id) (place_inside xs id)
  where
    by : (less : Bool) → place_of xs id ≤ length xs → cond less (suc (place_of xs id)) 0 ≤ suc (length xs)
    by true h = omega arith
    by false h = omega arith

said_true : (b : Bound) (xs : List Bound) → says b ≡ true → with_said b xs ≡ b ∷ xs
said_true b xs e = ap (λ (s : Bool). cond s (b ∷ xs) xs) e

said_false : (b : Bound) (xs : List Bound) → says b ≡ false → with_said b xs ≡ xs
said_false b xs e = ap (λ (s : Bool). cond s (b ∷ xs) xs) e

set_splits : (xs : List Bound) (p : ℕ) (b : Bound) → p < length xs → set xs p b ≡ take p xs ++ b ∷ drop (suc p) xs
set_splits [] p b h = absurd (omega arith)
set_splits (x ∷ xs) zero b h = refl
set_splits (x ∷ xs) (suc p) b h = ap (λ (ys : List Bound). x ∷ ys) (set_splits xs p b (omega arith))

pub set_over : (xs : List Bound) (p : ℕ) (b : Bound) → IsNormal xs → p ≡ place_of xs b.id → has_id (slice_get xs p) b.id ≡ true → says b ≡ true → IsSet xs b (set xs p b)
set_over xs p b n e h s =
    let q : ℕ = place_of xs b.id in
    let t = id_there xs q b.id b (ap (λ (k : ℕ). has_id (slice_get xs k) b.id) (sym e) ∙ h) in
    let same : take q xs ++ with_said b (drop (suc q) xs) ≡ set xs p b =
    ap (λ (ys : List Bound). take q xs ++ ys) (said_true b (drop (suc q) xs) s) ∙ sym (set_splits xs q b t.0) ∙ ap (λ (k : ℕ). set xs k b) (sym e) in
    subst (IsSet xs b) same (set_found xs b b n t.0 t.1)

pub set_out : (xs : List Bound) (p : ℕ) (b : Bound) → IsNormal xs → p ≡ place_of xs b.id → has_id (slice_get xs p) b.id ≡ true → says b ≡ false → IsSet xs b (take p xs ++ drop (suc p) xs)
set_out xs p b n e h s =
    let q : ℕ = place_of xs b.id in
    let t = id_there xs q b.id b (ap (λ (k : ℕ). has_id (slice_get xs k) b.id) (sym e) ∙ h) in
    let same : take q xs ++ with_said b (drop (suc q) xs) ≡ take p xs ++ drop (suc p) xs =
    ap (λ (ys : List Bound). take q xs ++ ys) (said_false b (drop (suc q) xs) s) ∙ ap (λ (k : ℕ). take k xs ++ drop (suc k) xs) (sym e) in
    subst (IsSet xs b) same (set_found xs b b n t.0 t.1)

pub set_in : (xs : List Bound) (p : ℕ) (b : Bound) → IsNormal xs → p ≡ place_of xs b.id → has_id (slice_get xs p) b.id ≡ false → says b ≡ true → IsSet xs b (take p xs ++ b ∷ drop p xs)
set_in xs p b n e h s =
    let q : ℕ = place_of xs b.id in
    let t = id_not_there xs q b.id b (ap (λ (k : ℕ). has_id (slice_get xs k) b.id) (sym e) ∙ h) in
    let same : take q xs ++ with_said b (drop q xs) ≡ take p xs ++ b ∷ drop p xs =
    ap (λ (ys : List Bound). take q xs ++ ys) (said_true b (drop q xs) s) ∙ ap (λ (k : ℕ). take k xs ++ b ∷ drop k xs) (sym e) in
    subst (IsSet xs b) same (set_missing xs b b n t)

pub set_not : (xs : List Bound) (p : ℕ) (b : Bound) → IsNormal xs → p ≡ place_of xs b.id → has_id (slice_get xs p) b.id ≡ false → says b ≡ false → IsSet xs b xs
set_not xs p b n e h s =
    let q : ℕ = place_of xs b.id in
    let t = id_not_there xs q b.id b (ap (λ (k : ℕ). has_id (slice_get xs k) b.id) (sym e) ∙ h) in
    let same : take q xs ++ with_said b (drop q xs) ≡ xs = ap (λ (ys : List Bound). take q xs ++ ys) (said_false b (drop q xs) s) ∙ whole q xs in
    subst (IsSet xs b) same (set_missing xs b b n t)

-- the place of an id, by halves
least_of : (least m : ℕ) (xs : List Bound) (d : Bound) → IsNormalFrom least xs → m < length xs → least ≤ (get_or xs m d).id
least_of least m [] d n lt = absurd (omega arith)
least_of least zero (x ∷ xs) d n lt = omega arith
least_of least (suc m) (x ∷ xs) d n lt = let ih = least_of (x.id + 1) m xs d n.2 (omega arith) in omega arith

pub below_place : (least m id : ℕ) (xs : List Bound) (d : Bound) → IsNormalFrom least xs → m < length xs → (get_or xs m d).id < id → m < place_of xs id
below_place least m id [] d n lt h = absurd (omega arith)
below_place least zero id (x ∷ xs) d n lt h = by (nat_lt x.id id) refl
  where
    by : (less : Bool) → less ≡ nat_lt x.id id → 0 < cond less (suc (place_of xs id)) 0
    by true e = omega arith
    by false e = absurd (grind (arith, nat_tests))
below_place least (suc m) id (x ∷ xs) d n lt h =
    let at : x.id + 1 ≤ (get_or xs m d).id = least_of (x.id + 1) m xs d n.2 (omega arith) in
    let ih : m < place_of xs id = below_place (x.id + 1) m id xs d n.2 (omega arith) h in
    by (nat_lt x.id id) refl (omega arith) ih
  where
    by : (less : Bool) → less ≡ nat_lt x.id id → x.id < id → m < place_of xs id → suc m < cond less (suc (place_of xs id)) 0
    by true e lt2 ih = omega arith
    by false e lt2 ih = absurd (grind (arith, nat_tests))

pub place_up_to : (m id : ℕ) (xs : List Bound) (d : Bound) → m < length xs → id ≤ (get_or xs m d).id → place_of xs id ≤ m
place_up_to m id [] d lt h = absurd (omega arith)
place_up_to zero id (x ∷ xs) d lt h = by (nat_lt x.id id) refl
  where
    by : (less : Bool) → less ≡ nat_lt x.id id → cond less (suc (place_of xs id)) 0 ≤ 0
    by true e = absurd (grind (arith, nat_tests))
    by false e = omega arith
place_up_to (suc m) id (x ∷ xs) d lt h = by (nat_lt x.id id) (place_up_to m id xs d (omega arith) h)
  where
    by : (less : Bool) → place_of xs id ≤ m → cond less (suc (place_of xs id)) 0 ≤ suc m
    by true ih = omega arith
    by false ih = omega arith

-- what is said of an id, at its place
pub said_there : (least id : ℕ) (xs : List Bound) (d : Bound) → IsNormalFrom least xs → has_id (slice_get xs (place_of xs id)) id ≡ true →
    (top_in xs id ≡ (get_or xs (place_of xs id) d).top) × (safe_in xs id ≡ (get_or xs (place_of xs id) d).safe)
said_there least id [] d n h = absurd (let wrong : false ≡ true = h in cc)
said_there least id (x ∷ xs) d n h = by (nat_lt x.id id) (nat_eq id x.id) refl refl (said_there (x.id + 1) id xs d n.2) h
  where
    by : (less here : Bool) → less ≡ nat_lt x.id id → here ≡ nat_eq id x.id →
        (has_id (slice_get xs (place_of xs id)) id ≡ true → (top_in xs id ≡ (get_or xs (place_of xs id) d).top) × (safe_in xs id ≡ (get_or xs (place_of xs id) d).safe)) →
        has_id (slice_get (x ∷ xs) (cond less (suc (place_of xs id)) 0)) id ≡ true →
        (cond here x.top (top_in xs id) ≡ (get_or (x ∷ xs) (cond less (suc (place_of xs id)) 0) d).top) × (cond here x.safe (safe_in xs id) ≡ (get_or (x ∷ xs) (cond less (suc (place_of xs id)) 0) d).safe)
    by true true e f ih g = absurd (grind (arith, nat_tests))
    by true false e f ih g = ih g
    by false true e f ih g = (refl, refl)
    by false false e f ih g = absurd (grind (arith, nat_tests))

pub unsaid_there : (least id : ℕ) (xs : List Bound) → IsNormalFrom least xs → has_id (slice_get xs (place_of xs id)) id ≡ false → (top_in xs id ≡ 0) × (safe_in xs id ≡ None)
unsaid_there least id [] n h = (refl, refl)
unsaid_there least id (x ∷ xs) n h = by (nat_lt x.id id) (nat_eq id x.id) refl refl (unsaid_there (x.id + 1) id xs n.2) h
  where
    by : (less here : Bool) → less ≡ nat_lt x.id id → here ≡ nat_eq id x.id →
        (has_id (slice_get xs (place_of xs id)) id ≡ false → (top_in xs id ≡ 0) × (safe_in xs id ≡ None)) →
        has_id (slice_get (x ∷ xs) (cond less (suc (place_of xs id)) 0)) id ≡ false →
        (cond here x.top (top_in xs id) ≡ 0) × (cond here x.safe (safe_in xs id) ≡ None)
    by true true e f ih g = absurd (grind (arith, nat_tests))
    by true false e f ih g = ih g
    by false true e f ih g = absurd (grind (arith, nat_tests))
    by false false e f ih g = absent (x.id + 1) xs id n.2 (grind (arith, nat_tests))
