-- The frames of extents, from one extent on.
use Rattle.std.proofs.Common.{◌≡◌, ℕ, zero, suc, ◌+◌, ◌-◌, ◌<◌, ◌≤◌, List, [], ◌∷◌, ◌++◌, Some, refl, sym, ◌∙◌, ap, subst, arith, length, slice_get, drop, get_or}
use Rattle.std.proofs.lemmas.Bool.{le-leb, leb-false, leb-true}
use Rattle.std.proofs.lemmas.List.{length-append, length-replicate}
use Rattle.std.specs.Prelude.{true, false, leb, option_map, replicate}
use Rattle.std.specs.List.Sorted.{IsPartitionPoint, IsPartitionedBy}
use Rattle.xen_page.specs.Owned.{domains_of, ends_of}
use Rattle.xen_page.specs.declared.extents.Extent.{Extent}

-- a frame of the first extent
pub within : (n d : ℕ) (later : List ℕ) (k : ℕ) → k < n → slice_get (replicate n d ++ later) k ≡ Some d
within zero d later k l = absurd (omega (arith, l))
within (suc n) d later zero l = refl
within (suc n) d later (suc k) l = within n d later k (omega (arith, l))

-- a frame behind the first extent
pub behind : (n d : ℕ) (later : List ℕ) (k : ℕ) → n ≤ k → slice_get (replicate n d ++ later) k ≡ slice_get later (k - n)
behind zero d later k l = let same : k ≡ k - 0 = omega arith in ap (slice_get later) same
behind (suc n) d later zero l = absurd (omega (arith, l))
behind (suc n) d later (suc k) l =
    let same : k - n ≡ suc k - suc n = omega arith in
    behind n d later k (omega (arith, l)) ∙ ap (slice_get later) same

-- the extents from one on are that one and those behind it
pub from_here : (extents : List Extent) (i : ℕ) (x d : Extent) → i < length extents → get_or extents i d ≡ x → drop i extents ≡ x ∷ drop (i + 1) extents
from_here [] i x d l e = absurd (omega (arith, l))
from_here (y ∷ ys) zero x d l e = ap (λ z. z ∷ ys) e
from_here (y ∷ ys) (suc i) x d l e =
    let next : suc (i + 1) ≡ suc i + 1 = omega arith in
    subst (λ (n : ℕ). drop i ys ≡ x ∷ drop n (y ∷ ys)) next (from_here ys i x d (omega (arith, l)) e)

pub none_left : (extents : List Extent) (i : ℕ) → length extents ≤ i → length (domains_of (drop i extents)) ≡ 0
none_left [] zero l = refl
none_left [] (suc i) l = refl
none_left (x ∷ xs) zero l = absurd (omega (arith, l))
none_left (x ∷ xs) (suc i) l = none_left xs i (omega (arith, l))

-- each extent has one end
pub as_many_ends : (first : ℕ) (extents : List Extent) → length (ends_of first extents) ≡ length extents
as_many_ends first [] = refl
as_many_ends first (x ∷ xs) = ap suc (as_many_ends (first + x.frames) xs)

-- no end lies before the first frame
pub ends_lie_behind : (first : ℕ) (extents : List Extent) (i d : ℕ) → i < length extents → first ≤ get_or (ends_of first extents) i d
ends_lie_behind first [] i d l = absurd (omega (arith, l))
ends_lie_behind first (x ∷ xs) zero d l = omega arith
ends_lie_behind first (x ∷ xs) (suc i) d l =
    let later = ends_lie_behind (first + x.frames) xs i d (omega (arith, l)) in
    omega (arith, later)

-- the ends rise
pub ends_rise : (first : ℕ) (extents : List Extent) (i j d : ℕ) → i ≤ j → j < length extents → get_or (ends_of first extents) i d ≤ get_or (ends_of first extents) j d
ends_rise first [] i j d l m = absurd (omega (arith, m))
ends_rise first (x ∷ xs) zero zero d l m = omega arith
ends_rise first (x ∷ xs) zero (suc j) d l m = ends_lie_behind (first + x.frames) xs j d (omega (arith, m))
ends_rise first (x ∷ xs) (suc i) zero d l m = absurd (omega (arith, l))
ends_rise first (x ∷ xs) (suc i) (suc j) d l m = ends_rise (first + x.frames) xs i j d (omega (arith, l)) (omega (arith, m))

-- the extent of a frame is the first whose end lies behind it
pub found : (first : ℕ) (extents : List Extent) (k t i : ℕ) → t ≡ first + k
    → ((j d : ℕ) → j < i → get_or (ends_of first extents) j d ≤ t)
    → ((j d : ℕ) → i ≤ j → j < length extents → t < get_or (ends_of first extents) j d)
    → i ≤ length extents
    → option_map (λ (x : Extent). x.domain) (slice_get extents i) ≡ slice_get (domains_of extents) k
found first [] k t i same below above l = refl
found first (x ∷ xs) k t zero same below above l =
    let near : t < first + x.frames = above 0 0 (omega arith) (omega arith) in
    sym (within x.frames x.domain (domains_of xs) k (omega (arith, near, same)))
found first (x ∷ xs) k t (suc i) same below above l =
    let passed : first + x.frames ≤ t = below 0 0 (omega arith) in
    found (first + x.frames) xs (k - x.frames) t i (omega (arith, passed, same))
    (λ j d m. below (suc j) d (omega (arith, m)))
    (λ j d m n. above (suc j) d (omega (arith, m)) (omega (arith, n)))
    (omega (arith, l))
    ∙ sym (behind x.frames x.domain (domains_of xs) k (omega (arith, passed, same)))

-- the same of the place between the ends up to a frame and those behind it
pub found_at_point : (extents : List Extent) (k i : ℕ) → i ≤ length (ends_of 0 extents)
    → IsPartitionPoint (λ y. leb y k ≡ true) (λ y. leb y k ≡ false) (ends_of 0 extents) i
    → option_map (λ (x : Extent). x.domain) (slice_get extents i) ≡ slice_get (domains_of extents) k
found_at_point extents k i l point =
    let count = as_many_ends 0 extents in
    found 0 extents k k i (omega arith)
    (λ j d m. leb-true _ _ (point.0 j d (omega arith) m))
    (λ j d m n. leb-false _ _ (point.1 j d m (omega (arith, n, count))))
    (omega (arith, l, count))

-- the ends up to a frame come first
pub ends_are_parted : (extents : List Extent) (k : ℕ) → IsPartitionedBy (λ y. leb y k) (ends_of 0 extents)
ends_are_parted extents k i j d l m up =
    let count = as_many_ends 0 extents in
    let rises = ends_rise 0 extents i j d l (omega (arith, m, count)) in
    let low = leb-true _ _ up in
    le-leb _ _ (omega (arith, rises, low))

-- the frames of an extent, and of those behind it
pub frames_from : (x : Extent) (later : List Extent) → length (domains_of (x ∷ later)) ≡ x.frames + length (domains_of later)
frames_from x later = length-append (replicate x.frames x.domain) (domains_of later) ∙ ap (λ (n : ℕ). n + length (domains_of later)) (length-replicate x.frames x.domain)

-- behind the last extent there is no end
pub no_more_ends : (first : ℕ) (extents : List Extent) (i : ℕ) → length extents ≤ i → ends_of first (drop i extents) ≡ []
no_more_ends first [] zero l = refl
no_more_ends first [] (suc i) l = refl
no_more_ends first (x ∷ xs) zero l = absurd (omega (arith, l))
no_more_ends first (x ∷ xs) (suc i) l = no_more_ends first xs i (omega (arith, l))

-- the owner of a frame, where a search for its place among the ends gave this place
pub owner_at : (extents : List Extent) (ends : List ℕ) (k i : ℕ) → ends ≡ ends_of 0 extents → i ≤ length ends
    → (IsPartitionedBy (λ y. leb y k) ends → IsPartitionPoint (λ y. leb y k ≡ true) (λ y. leb y k ≡ false) ends i)
    → option_map (λ (x : Extent). x.domain) (slice_get extents i) ≡ slice_get (domains_of extents) k
owner_at extents ends k i same l point =
    let parted = subst (λ l. IsPartitionedBy (λ y. leb y k) l) (sym same) (ends_are_parted extents k) in
    found_at_point extents k i (subst (λ l. i ≤ length l) same l)
    (subst (λ l. IsPartitionPoint (λ y. leb y k ≡ true) (λ y. leb y k ≡ false) l i) same (point parted))
