-- The packets of several turns.
use Rattle.std.proofs.Common.{◌≡◌, ◌<◌, ◌≤◌, ℕ, zero, suc, List, [], ◌∷◌, Some, None, map, take, ◌∙◌, refl, arith}
use Rattle.std.specs.Prelude.{slice_get}
use Rattle.xen_host.proofs.SweepLemmas.{mapped_get, taken_get}

mapped_none : {A B : Type 0} (f : A → B) (l : List A) (k : ℕ) → slice_get l k ≡ None → slice_get (map f l) k ≡ None
mapped_none f [] k e = refl
mapped_none f (a ∷ l) zero e = absurd (cc e)
mapped_none f (a ∷ l) (suc k) e = mapped_none f l k e

taken_none : {A : Type 0} (l : List A) (n k : ℕ) → slice_get l k ≡ None → slice_get (take n l) k ≡ None
taken_none l zero k e = refl
taken_none [] (suc n) k e = refl
taken_none (a ∷ l) (suc n) zero e = absurd (cc e)
taken_none (a ∷ l) (suc n) (suc k) e = taken_none l n k e

behind_none : {A : Type 0} (l : List A) (n k : ℕ) → n ≤ k → slice_get (take n l) k ≡ None
behind_none l zero k h = refl
behind_none [] (suc n) k h = refl
behind_none (a ∷ l) (suc n) zero h = absurd (omega (arith, h))
behind_none (a ∷ l) (suc n) (suc k) h = behind_none l n k (omega (arith, h))

pub one_of : {A B : Type 0} (f : A → B) (l : List A) (n k : ℕ) (x : A) → k < n → slice_get l k ≡ Some x → slice_get (map f (take n l)) k ≡ Some (f x)
one_of f l n k x h e = mapped_get f k (take n l) x (taken_get n k l h ∙ e)

pub none_behind : {A B : Type 0} (f : A → B) (l : List A) (n k : ℕ) → n ≤ k → slice_get (map f (take n l)) k ≡ None
none_behind f l n k h = mapped_none f (take n l) k (behind_none l n k h)

pub none_there : {A B : Type 0} (f : A → B) (l : List A) (n k : ℕ) → slice_get l k ≡ None → slice_get (map f (take n l)) k ≡ None
none_there f l n k e = mapped_none f (take n l) k (taken_none l n k e)
