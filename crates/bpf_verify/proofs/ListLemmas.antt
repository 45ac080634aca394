-- What lists hold.
use Rattle.std.proofs.Common.{◌≡◌, ◌<◌, ℕ, zero, suc, List, [], ◌∷◌, ◌++◌, Some, length, map, refl, ap, ◌∙◌, arith}
use Rattle.std.specs.Prelude.{slice_get, slice_set, Contains, Result, Ok, Err, IfErr}

-- what holds holds of every error
pub any_error : {A E P : Type 0} (r : Result A E) → P → IfErr r (λ (e : E). P)
any_error (Ok a) h = tt
any_error (Err e) h = h

-- an item is there, at its place
pub found_at : {A B : Type 0} (f : A → B) (xs : List A) (y : B) → Contains (map f xs) y → (k : ℕ) × (x : A) × (slice_get xs k ≡ Some x) × (f x ≡ y)
found_at f [] y (k, low, is) = absurd (omega arith)
found_at f (x ∷ xs) y (zero, low, is) = (0, x, refl, is)
found_at f (x ∷ xs) y (suc k, low, is) = let r = found_at f xs y (k, omega arith, is) in (suc r.0, r.1, r.2, r.3)

pub stands_there : {A B : Type 0} (f : A → B) (xs : List A) (y : B) (k : ℕ) (x : A) → slice_get xs k ≡ Some x → f x ≡ y → Contains (map f xs) y
stands_there f [] y k x e h = absurd (cc)
stands_there f (z ∷ xs) y zero x e h = let same : z ≡ x = cc in (0, omega arith, ap f same ∙ h)
stands_there f (z ∷ xs) y (suc k) x e h = let r = stands_there f xs y k x e h in (suc r.0, (let l = r.1 in omega (arith, l)), r.2)

-- none of the items is y
pub not_there : {A B : Type 0} (f : A → B) (xs : List A) (y : B) → ((k : ℕ) → k < length xs → (x : A) → slice_get xs k ≡ Some x → f x ≡ y → ⊥) → Contains (map f xs) y → ⊥
not_there f xs y h c = let r = found_at f xs y c in h r.0 (inside_of xs r.0 r.1 r.2) r.1 r.2 r.3
  where
    inside_of : {A : Type 0} (xs : List A) (k : ℕ) (x : A) → slice_get xs k ≡ Some x → k < length xs
    inside_of [] k x e = absurd (cc)
    inside_of (z ∷ xs) zero x e = omega arith
    inside_of (z ∷ xs) (suc k) x e = let r = inside_of xs k x e in omega (arith, r)

-- the eighth is replaced
pub with_last : {A B : Type 0} (f : A → B) (xs : List A) (n : ℕ) (x : A) → length xs ≡ suc n → (first : List B) × (e : A) × (length first ≡ n) × (map f xs ≡ first ++ f e ∷ []) × (slice_get xs n ≡ Some e) × (map f (slice_set xs n x) ≡ first ++ f x ∷ [])
with_last f [] n x h = absurd (omega arith)
with_last f (z ∷ []) zero x h = ([], z, refl, refl, refl, refl)
with_last f (z ∷ []) (suc n) x h = absurd (omega arith)
with_last f (z ∷ (y ∷ xs)) zero x h = absurd (omega arith)
with_last f (z ∷ (y ∷ xs)) (suc n) x h =
    let r = with_last f (y ∷ xs) n x (omega (arith, h)) in
    (f z ∷ r.0, r.1, ap suc r.2, ap (λ (ys : List _). f z ∷ ys) r.3, r.4, ap (λ (ys : List _). f z ∷ ys) r.5)
