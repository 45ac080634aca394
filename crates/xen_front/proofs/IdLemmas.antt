-- The ids of requests, and the flags of those in flight.
use Rattle.std.proofs.Common.{◌≡◌, ℕ, zero, suc, ◌+◌, ◌<◌, ◌≤◌, Bool, true, false, List, [], ◌∷◌, length, take, All, refl, ap, arith, get_or, set, length-take}
use Rattle.std.specs.Prelude.{if◌then◌else◌}
use Rattle.xen_front.specs.Fronts.{all_free, chosen, free_in}

-- how many flags are set
unfoldable pub count : List Bool → ℕ
count [] = 0
count (true ∷ out) = suc (count out)
count (false ∷ out) = count out

-- a flag that is set is one of the list's
pub flag_inside : (out : List Bool) (id : ℕ) → get_or out id false ≡ true → id < length out
flag_inside [] id h = cc
flag_inside (b ∷ out) zero h = omega arith
flag_inside (b ∷ out) (suc id) h = let r = flag_inside out id h in omega (arith, r)

-- clearing it takes one off
pub count-cleared : (out : List Bool) (id : ℕ) → get_or out id false ≡ true → suc (count (set out id false)) ≡ count out
unfolding count
count-cleared [] id h = cc
count-cleared (true ∷ out) zero h = refl
count-cleared (false ∷ out) zero h = cc
count-cleared (true ∷ out) (suc id) h = ap suc (count-cleared out id h)
count-cleared (false ∷ out) (suc id) h = count-cleared out id h

pub count-le-length : (out : List Bool) → count out ≤ length out
unfolding count
count-le-length [] = omega arith
count-le-length (true ∷ out) = let r = count-le-length out in omega (arith, r)
count-le-length (false ∷ out) = let r = count-le-length out in omega (arith, r)

-- each id is one of 256
abbrev pub AreIds : List ℕ → Type 0
AreIds [] = Unit {0}
AreIds (id ∷ ids) = (id < 256) × AreIds ids

pub AreIds-from_All : (ids : List ℕ) → All (λ id. id < 256) ids → AreIds ids
AreIds-from_All [] a = tt
AreIds-from_All (id ∷ ids) a = (a 0 0 (omega arith), AreIds-from_All ids (λ k d lt. a (suc k) d (omega (arith, lt))))

-- the free ids are such
free_ids : (out : List Bool) (n i : ℕ) → i + n ≤ 256 → AreIds (free_in out n i)
free_ids out zero i l = tt
free_ids out (suc n) i l = by (get_or out i false) (free_ids out n (i + 1) (omega (arith, l)))
  where
    by : (b : Bool) → AreIds (free_in out n (i + 1)) → AreIds (if b then free_in out n (i + 1) else (i ∷ free_in out n (i + 1)))
    by true later = later
    by false later = (omega (arith, l), later)

take_ids : (n : ℕ) (ids : List ℕ) → AreIds ids → AreIds (take n ids)
take_ids zero ids a = tt
take_ids (suc n) [] a = tt
take_ids (suc n) (id ∷ ids) a = (a.0, take_ids n ids a.1)

all_free_ids : (out : List Bool) → AreIds (all_free out)
unfolding all_free
all_free_ids out = free_ids out 256 0 (omega arith)

pub chosen_ids : (n : ℕ) (out : List Bool) → AreIds (chosen n out)
chosen_ids n out = take_ids n (all_free out) (all_free_ids out)

pub chosen_few : (n : ℕ) (out : List Bool) → n ≤ 16 → length (chosen n out) ≤ 16
chosen_few n out h = omega (arith, length-take n (all_free out), h)

-- and the first of them, or 0 if there is none
pub first_id : (out : List Bool) → get_or (all_free out) 0 0 < 256
first_id out = by (all_free out) (all_free_ids out)
  where
    by : (ids : List ℕ) → AreIds ids → get_or ids 0 0 < 256
    by [] a = omega arith
    by (id ∷ ids) a = a.0
