-- Two lists of bounds, merged by their ids.
use Rattle.std.proofs.Common.{◌≡◌, ℕ, zero, suc, ◌+◌, ◌<◌, ◌≤◌, Bool, true, false, refl, Option, Some, None, List, [], ◌∷◌, ◌++◌, max, nat_eq, sym, ap, ◌∙◌, arith, cond, subst, length, drop, get_or, inl, inr, ◌↔◌, append_assoc}
use Rattle.std.specs.Prelude.{if◌then◌else◌, nat_lt, ◌==◌, ◌||◌, not, All}
use Rattle.std.proofs.lemmas.Bool.Decides.{nat_tests}
use Rattle.std.proofs.Math.Seq.{drop-cons}
use Rattle.bpf_note.specs.declared.bound.Bound.{Bound}
use Rattle.bpf_note.specs.Join.{lesser}
use Rattle.bpf_note.specs.Parts.{top_in, safe_in, Says, IsNormal, IsNormalFrom}
use Rattle.bpf_note.specs.Bounds.{AreJoined, says, with_said, alone, paired, all_alone}
use Rattle.bpf_note.proofs.BoundLemmas.{absent, said_normal, said_lookup, says_nothing, same_bounds, normal_lower}

-- the bounds of x, and then what go makes, merged with others
pub run : Bound → (List Bound → List Bound) → List Bound → List Bound
run x go [] = with_said (alone x) (go [])
run x go (y ∷ ys) = if nat_lt x.id y.id then with_said (alone x) (go (y ∷ ys)) else if nat_lt y.id x.id then with_said (alone y) (run x go ys) else with_said (paired x y) (go ys)

pub merged : List Bound → List Bound → List Bound
merged [] ys = all_alone ys
merged (x ∷ xs) ys = run x (merged xs) ys

pub record JoinedFrom (least : ℕ) (xs ys zs : List Bound) : Type 0 where
  pub normal : IsNormalFrom least zs
  pub tops : (id : ℕ) → top_in zs id ≡ max (top_in xs id) (top_in ys id)
  pub safes : (id : ℕ) → safe_in zs id ≡ lesser (safe_in xs id) (safe_in ys id)

lesser_none : (o : Option ℕ) → lesser o None ≡ None
lesser_none None = refl
lesser_none (Some x) = refl

left_joined : (least : ℕ) (x : Bound) (xs ys zs : List Bound) → least < x.id + 1 → IsNormalFrom (x.id + 1) ys → JoinedFrom (x.id + 1) xs ys zs → JoinedFrom least (x ∷ xs) ys (with_said (alone x) zs)
left_joined least x xs ys zs h n j = record {
  normal = said_normal least (alone x) zs h j.normal;
  tops = λ id. (said_lookup (alone x) zs id j.normal).0 ∙ top id (nat_eq id x.id) refl;
  safes = λ id. (said_lookup (alone x) zs id j.normal).1 ∙ safe id (nat_eq id x.id) refl;
}
  where
    top : (id : ℕ) (here : Bool) → here ≡ nat_eq id x.id → cond here x.top (top_in zs id) ≡ max (cond here x.top (top_in xs id)) (top_in ys id)
    top id true e = let none : top_in ys id ≡ 0 = (absent (x.id + 1) ys id n (grind (arith, nat_tests))).0 in omega arith
    top id false e = j.tops id

    safe : (id : ℕ) (here : Bool) → here ≡ nat_eq id x.id → cond here None (safe_in zs id) ≡ lesser (cond here x.safe (safe_in xs id)) (safe_in ys id)
    safe id true e = let none = (absent (x.id + 1) ys id n (grind (arith, nat_tests))).1 in sym (ap (lesser x.safe) none ∙ lesser_none x.safe)
    safe id false e = j.safes id

right_joined : (least : ℕ) (y : Bound) (xs ys zs : List Bound) → least < y.id + 1 → IsNormalFrom (y.id + 1) xs → JoinedFrom (y.id + 1) xs ys zs → JoinedFrom least xs (y ∷ ys) (with_said (alone y) zs)
right_joined least y xs ys zs h n j = record {
  normal = said_normal least (alone y) zs h j.normal;
  tops = λ id. (said_lookup (alone y) zs id j.normal).0 ∙ top id (nat_eq id y.id) refl;
  safes = λ id. (said_lookup (alone y) zs id j.normal).1 ∙ safe id (nat_eq id y.id) refl;
}
  where
    top : (id : ℕ) (here : Bool) → here ≡ nat_eq id y.id → cond here y.top (top_in zs id) ≡ max (top_in xs id) (cond here y.top (top_in ys id))
    top id true e = let none : top_in xs id ≡ 0 = (absent (y.id + 1) xs id n (grind (arith, nat_tests))).0 in omega arith
    top id false e = j.tops id

    safe : (id : ℕ) (here : Bool) → here ≡ nat_eq id y.id → cond here None (safe_in zs id) ≡ lesser (safe_in xs id) (cond here y.safe (safe_in ys id))
    safe id true e = let none = (absent (y.id + 1) xs id n (grind (arith, nat_tests))).1 in sym (ap (λ (o : Option ℕ). lesser o y.safe) none)
    safe id false e = j.safes id

both_joined : (least : ℕ) (x y : Bound) (xs ys zs : List Bound) → x.id ≡ y.id → least < x.id + 1 → JoinedFrom (x.id + 1) xs ys zs → JoinedFrom least (x ∷ xs) (y ∷ ys) (with_said (paired x y) zs)
both_joined least x y xs ys zs same h j = record {
  normal = said_normal least (paired x y) zs h j.normal;
  tops = λ id. (said_lookup (paired x y) zs id j.normal).0 ∙ top id (nat_eq id x.id) (nat_eq id y.id) refl refl;
  safes = λ id. (said_lookup (paired x y) zs id j.normal).1 ∙ safe id (nat_eq id x.id) (nat_eq id y.id) refl refl;
}
  where
    top : (id : ℕ) (a b : Bool) → a ≡ nat_eq id x.id → b ≡ nat_eq id y.id → cond a (max x.top y.top) (top_in zs id) ≡ max (cond a x.top (top_in xs id)) (cond b y.top (top_in ys id))
    top id true true e f = refl
    top id false false e f = j.tops id
    top id true false e f = absurd (grind (arith, nat_tests))
    top id false true e f = absurd (grind (arith, nat_tests))

    safe : (id : ℕ) (a b : Bool) → a ≡ nat_eq id x.id → b ≡ nat_eq id y.id → cond a (lesser x.safe y.safe) (safe_in zs id) ≡ lesser (cond a x.safe (safe_in xs id)) (cond b y.safe (safe_in ys id))
    safe id true true e f = refl
    safe id false false e f = j.safes id
    safe id true false e f = absurd (grind (arith, nat_tests))
    safe id false true e f = absurd (grind (arith, nat_tests))

abbrev Goes : List Bound → Type 0
Goes xs = (least : ℕ) (ys : List Bound) → IsNormalFrom least xs → IsNormalFrom least ys → JoinedFrom least xs ys (merged xs ys)

run_is : (least : ℕ) (x : Bound) (xs ys : List Bound) → Goes xs → IsNormalFrom least (x ∷ xs) → IsNormalFrom least ys → JoinedFrom least (x ∷ xs) ys (run x (merged xs) ys)
unfolding run
run_is least x xs [] go n m = left_joined least x xs [] (merged xs []) n.0 tt (go (x.id + 1) [] n.2 tt)
run_is least x xs (y ∷ ys) go n m = by (nat_lt x.id y.id) (nat_lt y.id x.id) refl refl (λ h. run_is (y.id + 1) x xs ys go h m.2)
  where
    by : (less more : Bool) → less ≡ nat_lt x.id y.id → more ≡ nat_lt y.id x.id → (IsNormalFrom (y.id + 1) (x ∷ xs) → JoinedFrom (y.id + 1) (x ∷ xs) ys (run x (merged xs) ys)) →
        JoinedFrom least (x ∷ xs) (y ∷ ys) (cond less (with_said (alone x) (merged xs (y ∷ ys))) (cond more (with_said (alone y) (run x (merged xs) ys)) (with_said (paired x y) (merged xs ys))))
    by true more e f ih =
        let above : IsNormalFrom (x.id + 1) (y ∷ ys) = (grind (arith, nat_tests), m.1, m.2) in
        left_joined least x xs (y ∷ ys) (merged xs (y ∷ ys)) n.0 above (go (x.id + 1) (y ∷ ys) n.2 above)
    by false true e f ih =
        let above : IsNormalFrom (y.id + 1) (x ∷ xs) = (grind (arith, nat_tests), n.1, n.2) in
        right_joined least y (x ∷ xs) ys (run x (merged xs) ys) m.0 above (ih above)
    by false false e f ih =
        let same : x.id ≡ y.id = grind (arith, nat_tests) in
        both_joined least x y xs ys (merged xs ys) same n.0 (go (x.id + 1) ys n.2 (subst (λ (i : ℕ). IsNormalFrom (i + 1) ys) (sym same) m.2))

alone_is : (least : ℕ) (ys : List Bound) → IsNormalFrom least ys → JoinedFrom least [] ys (all_alone ys)
alone_is least [] m = record { normal = tt; tops = λ id. refl; safes = λ id. refl }
alone_is least (y ∷ ys) m = right_joined least y [] ys (all_alone ys) m.0 tt (alone_is (y.id + 1) ys m.2)

pub merged_is : (least : ℕ) (xs ys : List Bound) → IsNormalFrom least xs → IsNormalFrom least ys → JoinedFrom least xs ys (merged xs ys)
unfolding merged
merged_is least [] ys n m = alone_is least ys m
merged_is least (x ∷ xs) ys n m = run_is least x xs ys (λ l zs p q. merged_is l xs zs p q) n m

pub merged_joined : (xs ys zs : List Bound) → IsNormal xs → IsNormal ys → zs ≡ merged xs ys → AreJoined xs ys zs
merged_joined xs ys zs n m e =
    let j = merged_is 0 xs ys n m in
    let r : AreJoined xs ys (merged xs ys) = record { normal = j.normal; tops = j.tops; safes = j.safes } in
    subst (AreJoined xs ys) (sym e) r

-- the merge, by its first bounds
pub merged_left : (x y : Bound) (xs ys : List Bound) → x.id < y.id → merged (x ∷ xs) (y ∷ ys) ≡ with_said (alone x) (merged xs (y ∷ ys))
unfolding merged run
merged_left x y xs ys h = by (nat_lt x.id y.id) refl
  where
    by : (less : Bool) → less ≡ nat_lt x.id y.id → cond less (with_said (alone x) (merged xs (y ∷ ys))) (cond (nat_lt y.id x.id) (with_said (alone y) (run x (merged xs) ys)) (with_said (paired x y) (merged xs ys))) ≡ with_said (alone x) (merged xs (y ∷ ys))
    by true e = refl
    by false e = absurd (grind (arith, nat_tests))

pub merged_right : (x y : Bound) (xs ys : List Bound) → y.id < x.id → merged (x ∷ xs) (y ∷ ys) ≡ with_said (alone y) (merged (x ∷ xs) ys)
unfolding merged run
merged_right x y xs ys h = by (nat_lt x.id y.id) (nat_lt y.id x.id) refl refl
  where
    by : (less more : Bool) → less ≡ nat_lt x.id y.id → more ≡ nat_lt y.id x.id →
        cond less (with_said (alone x) (merged xs (y ∷ ys))) (cond more (with_said (alone y) (run x (merged xs) ys)) (with_said (paired x y) (merged xs ys))) ≡ with_said (alone y) (run x (merged xs) ys)
    by true more e f = absurd (grind (arith, nat_tests))
    by false true e f = refl
    by false false e f = absurd (grind (arith, nat_tests))

pub merged_both : (x y : Bound) (xs ys : List Bound) → x.id ≡ y.id → merged (x ∷ xs) (y ∷ ys) ≡ with_said (paired x y) (merged xs ys)
unfolding merged run
merged_both x y xs ys h = by (nat_lt x.id y.id) (nat_lt y.id x.id) refl refl
  where
    by : (less more : Bool) → less ≡ nat_lt x.id y.id → more ≡ nat_lt y.id x.id →
        cond less (with_said (alone x) (merged xs (y ∷ ys))) (cond more (with_said (alone y) (run x (merged xs) ys)) (with_said (paired x y) (merged xs ys))) ≡ with_said (paired x y) (merged xs ys)
    by true more e f = absurd (grind (arith, nat_tests))
    by false true e f = absurd (grind (arith, nat_tests))
    by false false e f = refl

pub merged_nil : (xs : List Bound) → merged xs [] ≡ all_alone xs
unfolding merged run
merged_nil [] = refl
merged_nil (x ∷ xs) = ap (with_said (alone x)) (merged_nil xs)

said_append : (front : List Bound) (b : Bound) (rest : List Bound) → (front ++ with_said b []) ++ rest ≡ front ++ with_said b rest
said_append [] b rest = by (says b)
  where
    by : (s : Bool) → cond s (b ∷ []) [] ++ rest ≡ cond s (b ∷ rest) rest
    by true = refl
    by false = refl
said_append (x ∷ xs) b rest = ap (λ (ys : List Bound). x ∷ ys) (said_append xs b rest)

pub drop_at : (xs : List Bound) (i : ℕ) (d : Bound) → i < length xs → drop i xs ≡ get_or xs i d ∷ drop (i + 1) xs
drop_at xs i d h = let next : suc i ≡ i + 1 = omega arith in drop-cons xs i d h ∙ ap (λ (k : ℕ). get_or xs i d ∷ drop k xs) next

-- one step of the merge in place
pub step_left : (front xs ys : List Bound) (i j : ℕ) (d e : Bound) → i < length xs → j < length ys → (get_or xs i d).id < (get_or ys j e).id →
    (front ++ with_said (alone (get_or xs i d)) []) ++ merged (drop (i + 1) xs) (drop j ys) ≡ front ++ merged (drop i xs) (drop j ys)
step_left front xs ys i j d e hi hj lt =
    let px : drop i xs ≡ get_or xs i d ∷ drop (i + 1) xs = drop_at xs i d hi in
    let py : drop j ys ≡ get_or ys j e ∷ drop (j + 1) ys = drop_at ys j e hj in
    let tail : merged (drop (i + 1) xs) (drop j ys) ≡ merged (drop (i + 1) xs) (get_or ys j e ∷ drop (j + 1) ys) = ap (merged (drop (i + 1) xs)) py in
    said_append front (alone (get_or xs i d)) (merged (drop (i + 1) xs) (drop j ys))
    ∙ ap (λ (zs : List Bound). front ++ zs) (ap (with_said (alone (get_or xs i d))) tail ∙ sym (merged_left (get_or xs i d) (get_or ys j e) (drop (i + 1) xs) (drop (j + 1) ys) lt) ∙ sym (ap (λ (zs : List Bound). merged zs (get_or ys j e ∷ drop (j + 1) ys)) px) ∙ sym (ap (merged (drop i xs)) py))

pub step_right : (front xs ys : List Bound) (i j : ℕ) (d e : Bound) → i < length xs → j < length ys → (get_or ys j e).id < (get_or xs i d).id →
    (front ++ with_said (alone (get_or ys j e)) []) ++ merged (drop i xs) (drop (j + 1) ys) ≡ front ++ merged (drop i xs) (drop j ys)
step_right front xs ys i j d e hi hj lt =
    let px : drop i xs ≡ get_or xs i d ∷ drop (i + 1) xs = drop_at xs i d hi in
    let py : drop j ys ≡ get_or ys j e ∷ drop (j + 1) ys = drop_at ys j e hj in
    let tail : merged (drop i xs) (drop (j + 1) ys) ≡ merged (get_or xs i d ∷ drop (i + 1) xs) (drop (j + 1) ys) = ap (λ (zs : List Bound). merged zs (drop (j + 1) ys)) px in
    said_append front (alone (get_or ys j e)) (merged (drop i xs) (drop (j + 1) ys))
    ∙ ap (λ (zs : List Bound). front ++ zs) (ap (with_said (alone (get_or ys j e))) tail ∙ sym (merged_right (get_or xs i d) (get_or ys j e) (drop (i + 1) xs) (drop (j + 1) ys) lt) ∙ sym (ap (λ (zs : List Bound). merged zs (get_or ys j e ∷ drop (j + 1) ys)) px) ∙ sym (ap (merged (drop i xs)) py))

pub step_both : (front xs ys : List Bound) (i j : ℕ) (d e : Bound) → i < length xs → j < length ys → (get_or xs i d).id ≡ (get_or ys j e).id →
    (front ++ with_said (paired (get_or xs i d) (get_or ys j e)) []) ++ merged (drop (i + 1) xs) (drop (j + 1) ys) ≡ front ++ merged (drop i xs) (drop j ys)
step_both front xs ys i j d e hi hj same =
    let px : drop i xs ≡ get_or xs i d ∷ drop (i + 1) xs = drop_at xs i d hi in
    let py : drop j ys ≡ get_or ys j e ∷ drop (j + 1) ys = drop_at ys j e hj in
    said_append front (paired (get_or xs i d) (get_or ys j e)) (merged (drop (i + 1) xs) (drop (j + 1) ys))
    ∙ ap (λ (zs : List Bound). front ++ zs) (sym (merged_both (get_or xs i d) (get_or ys j e) (drop (i + 1) xs) (drop (j + 1) ys) same) ∙ sym (ap (λ (zs : List Bound). merged zs (get_or ys j e ∷ drop (j + 1) ys)) px) ∙ sym (ap (merged (drop i xs)) py))

drop_all : (xs : List Bound) (i : ℕ) → length xs ≤ i → drop i xs ≡ []
drop_all [] zero h = refl
drop_all [] (suc i) h = refl
drop_all (x ∷ xs) zero h = absurd (omega arith)
drop_all (x ∷ xs) (suc i) h = drop_all xs i (omega arith)

pub append_none : (xs : List Bound) → xs ++ [] ≡ xs
append_none [] = refl
append_none (x ∷ xs) = ap (λ (ys : List Bound). x ∷ ys) (append_none xs)

-- what is left of one list at the end of the merge
pub rest_left : (xs ys : List Bound) (i j : ℕ) → length ys ≤ j → all_alone (drop i xs) ++ all_alone (drop j ys) ≡ merged (drop i xs) (drop j ys)
rest_left xs ys i j h =
    ap (λ (zs : List Bound). all_alone (drop i xs) ++ all_alone zs) (drop_all ys j h) ∙ append_none (all_alone (drop i xs))
    ∙ sym (merged_nil (drop i xs)) ∙ sym (ap (merged (drop i xs)) (drop_all ys j h))

pub rest_right : (xs ys : List Bound) (i j : ℕ) → length xs ≤ i → all_alone (drop i xs) ++ all_alone (drop j ys) ≡ merged (drop i xs) (drop j ys)
unfolding merged
rest_right xs ys i j h = ap (λ (zs : List Bound). all_alone zs ++ all_alone (drop j ys)) (drop_all xs i h) ∙ sym (ap (λ (zs : List Bound). merged zs (drop j ys)) (drop_all xs i h))

-- when the merge is the first list
pub normal_drop : (least i : ℕ) (xs : List Bound) → IsNormalFrom least xs → IsNormalFrom least (drop i xs)
normal_drop least zero xs n = n
normal_drop least (suc i) [] n = tt
normal_drop least (suc i) (x ∷ xs) n = normal_drop least i xs (normal_lower (x.id + 1) least xs (omega arith) n.2)

says_true : (b : Bound) → Says b → says b ≡ true
says_true b h = by (says b) refl h
  where
    by : (s : Bool) → s ≡ says b → Says b → s ≡ true
    by true e h = refl
    by false e h = let none = says_nothing b (sym e) in absurd (elim h [ inl a ↦ a none.0 | inr a ↦ a none.1 ])

pub no_less : (x : Bound) (xs : List Bound) → IsNormalFrom (x.id + 1) (x ∷ xs) → ⊥
no_less x xs n = omega arith

-- the first bound stays, and so do the others
pub head_stays : (b x : Bound) (zs xs : List Bound) → IsNormalFrom (x.id + 1) zs → with_said b zs ≡ x ∷ xs → (b ≡ x) × (zs ≡ xs)
head_stays b x zs xs n e = by (says b) e
  where
    by : (s : Bool) → cond s (b ∷ zs) zs ≡ x ∷ xs → (b ≡ x) × (zs ≡ xs)
    by true f = (cc, cc)
    by false f = absurd (no_less x xs (subst (IsNormalFrom (x.id + 1)) f n))

pub head_kept : (b x : Bound) (zs xs : List Bound) → Says x → b ≡ x → zs ≡ xs → with_said b zs ≡ x ∷ xs
head_kept b x zs xs s e f = ap (λ (c : Bound). with_said c zs) e ∙ ap (λ (t : Bool). cond t (x ∷ zs) zs) (says_true x s) ∙ ap (λ (ys : List Bound). x ∷ ys) f

pub head_goes : (b x : Bound) (zs xs : List Bound) → b.id < x.id → with_said b zs ≡ x ∷ xs → (b.top ≡ 0) × (zs ≡ x ∷ xs)
head_goes b x zs xs lt e = by (says b) refl e
  where
    by : (s : Bool) → s ≡ says b → cond s (b ∷ zs) zs ≡ x ∷ xs → (b.top ≡ 0) × (zs ≡ x ∷ xs)
    by true g f = let same : b ≡ x = cc in absurd (let ids : b.id ≡ x.id = ap (λ (c : Bound). c.id) same in omega arith)
    by false g f = ((says_nothing b (sym g)).0, f)

pub alone_silent : (y : Bound) (zs : List Bound) → y.top ≡ 0 → with_said (alone y) zs ≡ zs
alone_silent y zs e = by (says (alone y)) refl
  where
    by : (s : Bool) → s ≡ says (alone y) → cond s (alone y ∷ zs) zs ≡ zs
    by true f = absurd (let t : (not (y.top == 0) || false) ≡ true = sym f in grind (arith, nat_tests))
    by false f = refl

pub alone_same : (x : Bound) → x.safe ≡ None → alone x ≡ x
alone_same x e = λ i. record { id = x.id; top = x.top; safe = sym e i }

abbrev pub Stays : List Bound → List Bound → Type 0
Stays xs ys = merged xs ys ≡ xs

pub stays_left : (x y : Bound) (xs ys : List Bound) → IsNormalFrom 0 (x ∷ xs) → IsNormalFrom 0 (y ∷ ys) → x.id < y.id → (Stays (x ∷ xs) (y ∷ ys) → (x.safe ≡ None) × Stays xs (y ∷ ys)) × (x.safe ≡ None → Stays xs (y ∷ ys) → Stays (x ∷ xs) (y ∷ ys))
stays_left x y xs ys n m lt =
    let above : IsNormalFrom (x.id + 1) (y ∷ ys) = (omega arith, m.1, m.2) in
    let j = merged_is (x.id + 1) xs (y ∷ ys) n.2 above in (
      λ e. let h = head_stays (alone x) x (merged xs (y ∷ ys)) xs j.normal (sym (merged_left x y xs ys lt) ∙ e) in (sym (ap (λ (b : Bound). b.safe) h.0), h.1),
      λ s e. merged_left x y xs ys lt ∙ head_kept (alone x) x (merged xs (y ∷ ys)) xs n.1 (alone_same x s) e,
    )

pub stays_right : (x y : Bound) (xs ys : List Bound) → y.id < x.id → (Stays (x ∷ xs) (y ∷ ys) → (y.top ≡ 0) × Stays (x ∷ xs) ys) × (y.top ≡ 0 → Stays (x ∷ xs) ys → Stays (x ∷ xs) (y ∷ ys))
stays_right x y xs ys lt = (
  λ e. head_goes (alone y) x (merged (x ∷ xs) ys) xs lt (sym (merged_right x y xs ys lt) ∙ e),
  λ t e. merged_right x y xs ys lt ∙ alone_silent y (merged (x ∷ xs) ys) t ∙ e,
)

pub stays_both : (x y : Bound) (xs ys : List Bound) → IsNormalFrom 0 (x ∷ xs) → IsNormalFrom 0 (y ∷ ys) → x.id ≡ y.id → (Stays (x ∷ xs) (y ∷ ys) → (paired x y ≡ x) × Stays xs ys) × (paired x y ≡ x → Stays xs ys → Stays (x ∷ xs) (y ∷ ys))
stays_both x y xs ys n m same =
    let j = merged_is (x.id + 1) xs ys n.2 (subst (λ (i : ℕ). IsNormalFrom (i + 1) ys) (sym same) m.2) in (
      λ e. head_stays (paired x y) x (merged xs ys) xs j.normal (sym (merged_both x y xs ys same) ∙ e),
      λ s e. merged_both x y xs ys same ∙ head_kept (paired x y) x (merged xs ys) xs n.1 s e,
    )

-- the join is the first list exactly where the merge is
pub joined_stays : (xs ys : List Bound) → IsNormal xs → IsNormal ys → AreJoined xs ys xs → Stays xs ys
joined_stays xs ys n m a =
    let j = merged_is 0 xs ys n m in
    same_bounds 0 (merged xs ys) xs j.normal n (λ id. (j.tops id ∙ sym (a.tops id), j.safes id ∙ sym (a.safes id)))

pub stays_joined : (xs ys : List Bound) → IsNormal xs → IsNormal ys → Stays xs ys → AreJoined xs ys xs
stays_joined xs ys n m e = merged_joined xs ys xs n m (sym e)

-- the same in place
in_place : (xs ys : List Bound) (i j : ℕ) (d e : Bound) → i < length xs → j < length ys →
    Stays (drop i xs) (drop j ys) ↔ Stays (get_or xs i d ∷ drop (i + 1) xs) (get_or ys j e ∷ drop (j + 1) ys)
in_place xs ys i j d e hi hj =
    let px : drop i xs ≡ get_or xs i d ∷ drop (i + 1) xs = drop_at xs i d hi in
    let py : drop j ys ≡ get_or ys j e ∷ drop (j + 1) ys = drop_at ys j e hj in (
      λ s. subst (λ (zs : List Bound). Stays (get_or xs i d ∷ drop (i + 1) xs) zs) py (subst (λ (zs : List Bound). Stays zs (drop j ys)) px s),
      λ s. subst (λ (zs : List Bound). Stays zs (drop j ys)) (sym px) (subst (λ (zs : List Bound). Stays (get_or xs i d ∷ drop (i + 1) xs) zs) (sym py) s),
    )

pub front_normal : (xs : List Bound) (i : ℕ) (d : Bound) → IsNormal xs → i < length xs → IsNormalFrom 0 (get_or xs i d ∷ drop (i + 1) xs)
front_normal xs i d n h = subst (IsNormalFrom 0) (drop_at xs i d h) (normal_drop 0 i xs n)

-- the part of the left list's first bound, and the rest
pub place_left : (xs ys : List Bound) (i j : ℕ) (d e : Bound) → IsNormal xs → IsNormal ys → i < length xs → j < length ys → (get_or xs i d).id < (get_or ys j e).id →
    (Stays (drop i xs) (drop j ys) → ((get_or xs i d).safe ≡ None) × Stays (drop (i + 1) xs) (drop j ys)) × ((get_or xs i d).safe ≡ None → Stays (drop (i + 1) xs) (drop j ys) → Stays (drop i xs) (drop j ys))
place_left xs ys i j d e n m hi hj lt =
    let here = in_place xs ys i j d e hi hj in
    let py : drop j ys ≡ get_or ys j e ∷ drop (j + 1) ys = drop_at ys j e hj in
    let heads = stays_left (get_or xs i d) (get_or ys j e) (drop (i + 1) xs) (drop (j + 1) ys) (front_normal xs i d n hi) (front_normal ys j e m hj) lt in (
      λ s. let r = heads.0 (here.0 s) in (r.0, subst (λ (zs : List Bound). Stays (drop (i + 1) xs) zs) (sym py) r.1),
      λ none s. here.1 (heads.1 none (subst (λ (zs : List Bound). Stays (drop (i + 1) xs) zs) py s)),
    )

pub place_right : (xs ys : List Bound) (i j : ℕ) (d e : Bound) → i < length xs → j < length ys → (get_or ys j e).id < (get_or xs i d).id →
    (Stays (drop i xs) (drop j ys) → ((get_or ys j e).top ≡ 0) × Stays (drop i xs) (drop (j + 1) ys)) × ((get_or ys j e).top ≡ 0 → Stays (drop i xs) (drop (j + 1) ys) → Stays (drop i xs) (drop j ys))
place_right xs ys i j d e hi hj lt =
    let here = in_place xs ys i j d e hi hj in
    let px : drop i xs ≡ get_or xs i d ∷ drop (i + 1) xs = drop_at xs i d hi in
    let heads = stays_right (get_or xs i d) (get_or ys j e) (drop (i + 1) xs) (drop (j + 1) ys) lt in (
      λ s. let r = heads.0 (here.0 s) in (r.0, subst (λ (zs : List Bound). Stays zs (drop (j + 1) ys)) (sym px) r.1),
      λ none s. here.1 (heads.1 none (subst (λ (zs : List Bound). Stays zs (drop (j + 1) ys)) px s)),
    )

pub place_both : (xs ys : List Bound) (i j : ℕ) (d e : Bound) → IsNormal xs → IsNormal ys → i < length xs → j < length ys → (get_or xs i d).id ≡ (get_or ys j e).id →
    (Stays (drop i xs) (drop j ys) → (paired (get_or xs i d) (get_or ys j e) ≡ get_or xs i d) × Stays (drop (i + 1) xs) (drop (j + 1) ys))
    × (paired (get_or xs i d) (get_or ys j e) ≡ get_or xs i d → Stays (drop (i + 1) xs) (drop (j + 1) ys) → Stays (drop i xs) (drop j ys))
place_both xs ys i j d e n m hi hj same =
    let here = in_place xs ys i j d e hi hj in
    let heads = stays_both (get_or xs i d) (get_or ys j e) (drop (i + 1) xs) (drop (j + 1) ys) (front_normal xs i d n hi) (front_normal ys j e m hj) same in
    (λ s. heads.0 (here.0 s), λ p s. here.1 (heads.1 p s))

-- at the end of one of the lists
none_there : (P : Bound → Type 0) → All P []
none_there P = λ k d lt. absurd (omega arith)

one_more : (P : Bound → Type 0) (x : Bound) (xs : List Bound) → P x → All P xs → All P (x ∷ xs)
one_more P x xs p h = λ k d lt. at k d lt
  where
    at : (k : ℕ) (d : Bound) → k < suc (length xs) → P (get_or (x ∷ xs) k d)
    at zero d lt = p
    at (suc k) d lt = h k d (omega arith)

first_of_all : (P : Bound → Type 0) (x : Bound) (xs : List Bound) → All P (x ∷ xs) → P x
first_of_all P x xs h = h 0 x (omega arith)

rest_of_all : (P : Bound → Type 0) (x : Bound) (xs : List Bound) → All P (x ∷ xs) → All P xs
rest_of_all P x xs h = λ k d lt. h (suc k) d (omega arith)

abbrev pub HasNoTop : Bound → Type 0
HasNoTop b = b.top ≡ 0

abbrev pub HasNoSafe : Bound → Type 0
HasNoSafe b = b.safe ≡ None

stays_alone : (ys : List Bound) → Stays [] ys ↔ All HasNoTop ys
unfolding merged
stays_alone [] = (λ e. none_there HasNoTop, λ a. refl)
stays_alone (y ∷ ys) = by (stays_alone ys)
  where
    gone : (s : Bool) → s ≡ says (alone y) → cond s (alone y ∷ all_alone ys) (all_alone ys) ≡ [] → (y.top ≡ 0) × (all_alone ys ≡ [])
    gone true f e = absurd (cc)
    gone false f e = ((says_nothing (alone y) (sym f)).0, e)

    by : (all_alone ys ≡ [] ↔ All HasNoTop ys) → with_said (alone y) (all_alone ys) ≡ [] ↔ All HasNoTop (y ∷ ys)
    by ih = (
      λ e. let r = gone (says (alone y)) refl e in one_more HasNoTop y ys r.0 (ih.0 r.1),
      λ a. alone_silent y (all_alone ys) (first_of_all HasNoTop y ys a) ∙ ih.1 (rest_of_all HasNoTop y ys a),
    )

stays_nil : (least : ℕ) (xs : List Bound) → IsNormalFrom least xs → (all_alone xs ≡ xs) ↔ All HasNoSafe xs
stays_nil least [] n = (λ e. none_there HasNoSafe, λ a. refl)
stays_nil least (x ∷ xs) n = by (stays_nil (x.id + 1) xs n.2) (alone_is (x.id + 1) xs n.2)
  where
    by : ((all_alone xs ≡ xs) ↔ All HasNoSafe xs) → JoinedFrom (x.id + 1) [] xs (all_alone xs) → (with_said (alone x) (all_alone xs) ≡ x ∷ xs) ↔ All HasNoSafe (x ∷ xs)
    by ih j = (
      λ e. let h = head_stays (alone x) x (all_alone xs) xs j.normal e in one_more HasNoSafe x xs (sym (ap (λ (b : Bound). b.safe) h.0)) (ih.0 h.1),
      λ a. head_kept (alone x) x (all_alone xs) xs n.1 (alone_same x (first_of_all HasNoSafe x xs a)) (ih.1 (rest_of_all HasNoSafe x xs a)),
    )

pub end_left : (xs ys : List Bound) (i j : ℕ) → length xs ≤ i → Stays (drop i xs) (drop j ys) ↔ (All (λ (b : Bound). b.safe ≡ None) (drop i xs) × All (λ (b : Bound). b.top ≡ 0) (drop j ys))
end_left xs ys i j h =
    let none : drop i xs ≡ [] = drop_all xs i h in
    let s = stays_alone (drop j ys) in (
      λ t. (subst (All HasNoSafe) (sym none) (none_there HasNoSafe), s.0 (subst (λ (zs : List Bound). Stays zs (drop j ys)) none t)),
      λ t. subst (λ (zs : List Bound). Stays zs (drop j ys)) (sym none) (s.1 t.1),
    )

pub end_right : (xs ys : List Bound) (i j : ℕ) → IsNormal xs → length ys ≤ j → Stays (drop i xs) (drop j ys) ↔ (All (λ (b : Bound). b.safe ≡ None) (drop i xs) × All (λ (b : Bound). b.top ≡ 0) (drop j ys))
end_right xs ys i j n h =
    let none : drop j ys ≡ [] = drop_all ys j h in
    let s = stays_nil 0 (drop i xs) (normal_drop 0 i xs n) in (
      λ t. (s.0 (sym (merged_nil (drop i xs)) ∙ subst (λ (zs : List Bound). Stays (drop i xs) zs) none t), subst (All HasNoTop) (sym none) (none_there HasNoTop)),
      λ t. subst (λ (zs : List Bound). Stays (drop i xs) zs) (sym none) (merged_nil (drop i xs) ∙ s.1 t.0),
    )

-- what is left of both lists, after bounds that are merged
pub rest_appended : (front us vs whole ms : List Bound) → us ++ vs ≡ ms → front ++ ms ≡ whole → (front ++ us) ++ vs ≡ whole
rest_appended front us vs whole ms e f = append_assoc front us vs ∙ ap (λ (zs : List Bound). front ++ zs) e ∙ f
