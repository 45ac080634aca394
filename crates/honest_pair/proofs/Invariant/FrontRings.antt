-- The flags of the ids in flight, and the free ids.
use Rattle.std.proofs.Common.{◌≡◌, ℕ, zero, suc, ◌+◌, ◌<◌, ◌≤◌, inl, inr, Bool, true, false, List, [], ◌∷◌, length, length-set, take, get_or, set, refl, sym, ◌∙◌, ap, arith}
use Rattle.std.specs.Prelude.{if◌then◌else◌}
use Rattle.std.proofs.lemmas.Bool.Decides.{eqb_tells}
use Rattle.std.proofs.lemmas.List.{get_or-set_other, get_or-set_same}
use Rattle.xen_front.specs.Fronts.{all_free, chosen, free_in}
use Rattle.xen_front.specs.Tree.{fly}
use Rattle.honest_pair.specs.Invariant.Ghosts.{AllOf}
use Rattle.honest_pair.proofs.Invariant.FrontPieces.{Differ, all_map}

-- a free id in a range
abbrev pub IsFreeIn : List Bool → ℕ → ℕ → ℕ → Type 0
IsFreeIn out n i m = (i ≤ m) × (m < i + n) × (get_or out m false ≡ false)

pub free_from : (out : List Bool) (n i : ℕ) → AllOf (IsFreeIn out n i) (free_in out n i)
free_from out zero i = tt
free_from out (suc n) i = by (get_or out i false) refl
    (all_map (IsFreeIn out n (i + 1)) (IsFreeIn out (suc n) i) (λ m h. let a = h.0 in let c = h.1 in (omega arith, omega arith, h.2)) (free_in out n (i + 1)) (free_from out n (i + 1)))
  where
    by : (b : Bool) → get_or out i false ≡ b → AllOf (IsFreeIn out (suc n) i) (free_in out n (i + 1)) → AllOf (IsFreeIn out (suc n) i) (if b then free_in out n (i + 1) else (i ∷ free_in out n (i + 1)))
    by true e later = later
    by false e later = ((omega arith, omega arith, e), later)

pub free_differ : (out : List Bool) (n i : ℕ) → Differ (free_in out n i)
free_differ out zero i = tt
free_differ out (suc n) i = by (get_or out i false) (free_differ out n (i + 1))
  where
    by : (b : Bool) → Differ (free_in out n (i + 1)) → Differ (if b then free_in out n (i + 1) else (i ∷ free_in out n (i + 1)))
    by true later = later
    by false later = (all_map (IsFreeIn out n (i + 1)) (λ j. j ≡ i → ⊥) (λ m h e. let a = h.0 in omega arith) (free_in out n (i + 1)) (free_from out n (i + 1)), later)

-- a flag outside of the range
free_outside : (out : List Bool) (m : ℕ) (v : Bool) (n i : ℕ) → m < i → free_in (set out m v) n i ≡ free_in out n i
free_outside out m v zero i h = refl
free_outside out m v (suc n) i h =
    let e : get_or (set out m v) i false ≡ get_or out i false = get_or-set_other out m i v false (λ q. omega arith) in
    let r = free_outside out m v n (i + 1) (omega arith) in
    ap (λ b. if b then free_in (set out m v) n (i + 1) else (i ∷ free_in (set out m v) n (i + 1))) e ∙ ap (λ l. if get_or out i false then l else (i ∷ l)) r

-- setting a flag takes one off the free, and clearing it adds one
pub free_set : (out : List Bool) (m n i : ℕ) → m < length out → get_or out m false ≡ false → i ≤ m → m < i + n → length (free_in (set out m true) n i) + 1 ≡ length (free_in out n i)
free_set out m zero i l f a b = absurd (omega arith)
free_set out m (suc n) i l f a b = elim (eqb_tells i m) [ inl q ↦ here q.1 | inr q ↦ there (get_or out i false) refl q.1 (λ c. free_set out m n (i + 1) l f (let ne = q.1 in omega arith) c) ]
  where
    here : i ≡ m → length (free_in (set out m true) (suc n) i) + 1 ≡ length (free_in out (suc n) i)
    here e =
        let g : get_or (set out m true) i false ≡ true = ap (λ j. get_or (set out m true) j false) e ∙ get_or-set_same out m true false l in
        let k : get_or out i false ≡ false = ap (λ j. get_or out j false) e ∙ f in
        let r = ap length (free_outside out m true n (i + 1) (omega arith)) in
        let u : length (free_in (set out m true) (suc n) i) ≡ length (free_in (set out m true) n (i + 1)) = ap (λ c. length (if c then free_in (set out m true) n (i + 1) else (i ∷ free_in (set out m true) n (i + 1)))) g in
        let v : length (free_in out (suc n) i) ≡ suc (length (free_in out n (i + 1))) = ap (λ c. length (if c then free_in out n (i + 1) else (i ∷ free_in out n (i + 1)))) k in
        omega (arith, r, u, v)

    there : (c : Bool) → get_or out i false ≡ c → (i ≡ m → ⊥) → (m < i + 1 + n → length (free_in (set out m true) n (i + 1)) + 1 ≡ length (free_in out n (i + 1))) → length (free_in (set out m true) (suc n) i) + 1 ≡ length (free_in out (suc n) i)
    there c q ne go = by c q (get_or-set_other out m i true false ne ∙ q)
      where
        by : (c : Bool) → get_or out i false ≡ c → get_or (set out m true) i false ≡ c → length (free_in (set out m true) (suc n) i) + 1 ≡ length (free_in out (suc n) i)
        by true p r = ap (λ d. length (if d then free_in (set out m true) n (i + 1) else (i ∷ free_in (set out m true) n (i + 1))) + 1) r ∙ go (omega arith) ∙ sym (ap (λ d. length (if d then free_in out n (i + 1) else (i ∷ free_in out n (i + 1)))) p)
        by false p r =
            let u : length (free_in (set out m true) (suc n) i) ≡ suc (length (free_in (set out m true) n (i + 1))) = ap (λ d. length (if d then free_in (set out m true) n (i + 1) else (i ∷ free_in (set out m true) n (i + 1)))) r in
            let v : length (free_in out (suc n) i) ≡ suc (length (free_in out n (i + 1))) = ap (λ d. length (if d then free_in out n (i + 1) else (i ∷ free_in out n (i + 1)))) p in
            let t = go (omega arith) in omega (arith, u, v, t)

set_set : (out : List Bool) (m : ℕ) → get_or out m false ≡ true → set (set out m false) m true ≡ out
set_set [] m h = refl
set_set (b ∷ out) zero h = ap (λ c. c ∷ out) (sym h)
set_set (b ∷ out) (suc m) h = ap (λ l. b ∷ l) (set_set out m h)

pub free_clear : (out : List Bool) (m n i : ℕ) → m < length out → get_or out m false ≡ true → i ≤ m → m < i + n → length (free_in (set out m false) n i) ≡ length (free_in out n i) + 1
free_clear out m n i l f a b =
    let q = length-set out m false in
    sym (free_set (set out m false) m n i (omega (arith, q)) (get_or-set_same out m false false l) a b) ∙ ap (λ o. length (free_in o n i) + 1) (set_set out m f)

-- all 256 ids
pub all_free_from : (out : List Bool) → AllOf (IsFreeIn out 256 0) (all_free out)
unfolding all_free
all_free_from out = free_from out 256 0

pub all_free_differ : (out : List Bool) → Differ (all_free out)
unfolding all_free
all_free_differ out = free_differ out 256 0

pub all_free_set : (out : List Bool) (m : ℕ) → length out ≡ 256 → get_or out m false ≡ false → m < 256 → length (all_free (set out m true)) + 1 ≡ length (all_free out)
unfolding all_free
all_free_set out m l f b = free_set out m 256 0 (omega arith) f (omega arith) (omega arith)

pub all_free_clear : (out : List Bool) (m : ℕ) → length out ≡ 256 → get_or out m false ≡ true → m < 256 → length (all_free (set out m false)) ≡ length (all_free out) + 1
unfolding all_free
all_free_clear out m l f b = free_clear out m 256 0 (omega arith) f (omega arith) (omega arith)

take_all : {A : Type 0} (P : A → Type 0) (n : ℕ) (l : List A) → AllOf P l → AllOf P (take n l)
take_all P zero l h = tt
take_all P (suc n) [] h = tt
take_all P (suc n) (x ∷ l) h = (h.0, take_all P n l h.1)

take_differ : (n : ℕ) (l : List ℕ) → Differ l → Differ (take n l)
take_differ zero l h = tt
take_differ (suc n) [] h = tt
take_differ (suc n) (x ∷ l) h = (take_all (λ j. j ≡ x → ⊥) n l h.0, take_differ n l h.1)

pub chosen_from : (n : ℕ) (out : List Bool) → AllOf (IsFreeIn out 256 0) (chosen n out)
chosen_from n out = take_all (IsFreeIn out 256 0) n (all_free out) (all_free_from out)

pub chosen_differ : (n : ℕ) (out : List Bool) → Differ (chosen n out)
chosen_differ n out = take_differ n (all_free out) (all_free_differ out)

-- ids that take flight
still : (out : List Bool) (i : ℕ) (ids : List ℕ) → AllOf (λ j. j ≡ i → ⊥) ids → AllOf (λ j. get_or out j false ≡ false) ids → AllOf (λ j. get_or (set out i true) j false ≡ false) ids
still out i [] a b = tt
still out i (j ∷ ids) a b = (get_or-set_other out i j true false a.0 ∙ b.0, still out i ids a.1 b.1)

pub fly_length : (out : List Bool) (ids : List ℕ) → length (fly out ids) ≡ length out
fly_length out [] = refl
fly_length out (i ∷ ids) = fly_length (set out i true) ids ∙ length-set out i true

pub fly_count : (ids : List ℕ) (out : List Bool) → length out ≡ 256 → Differ ids → AllOf (λ j. j < 256) ids → AllOf (λ j. get_or out j false ≡ false) ids → length (all_free (fly out ids)) + length ids ≡ length (all_free out)
fly_count [] out l d s f = omega arith
fly_count (i ∷ ids) out l d s f =
    let r = fly_count ids (set out i true) (length-set out i true ∙ l) d.1 s.1 (still out i ids d.0 f.1) in
    let q = all_free_set out i l f.0 s.0 in
    omega (arith, r, q)

pub fly_still : (ids : List ℕ) (out : List Bool) (j : ℕ) → j < length out → get_or out j false ≡ true → get_or (fly out ids) j false ≡ true
fly_still [] out j l h = h
fly_still (i ∷ ids) out j l h = let q = length-set out i true in fly_still ids (set out i true) j (omega (arith, l, q)) (elim (eqb_tells j i) [ inl e ↦ rw e.1 (get_or-set_same out i true false (rw (sym e.1) l)) | inr n ↦ get_or-set_other out i j true false n.1 ∙ h ])

pub fly_busy : (ids : List ℕ) (out : List Bool) (k : ℕ) → length out ≡ 256 → AllOf (λ j. j < 256) ids → k < length ids → get_or (fly out ids) (get_or ids k 0) false ≡ true
fly_busy [] out k l s h = absurd (omega arith)
fly_busy (i ∷ ids) out zero l s h = let q = length-set out i true in let small : i < 256 = s.0 in fly_still ids (set out i true) i (omega (arith, l, q, small)) (get_or-set_same out i true false (omega (arith, l, small)))
fly_busy (i ∷ ids) out (suc k) l s h = fly_busy ids (set out i true) k (length-set out i true ∙ l) s.1 (omega arith)
