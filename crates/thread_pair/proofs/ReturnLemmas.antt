-- Lists and their last elements.
use Rattle.std.proofs.Common.{◌≡◌, ◌<◌, List, [], ◌∷◌, ◌++◌, All, Some, length, length-append, ap, arith}
use Rattle.std.proofs.lemmas.List.Elements.{All-pop}

pub last_of : {X : Type 0} (P : X → Type 0) (xs ys : List X) (x : X) → xs ≡ ys ++ x ∷ [] → All P xs → All P ys × P x
last_of P xs ys x e all = All-pop P xs ys (Some x) e all

pub empty_list : {X : Type 0} (l : List X) → ¬ (0 < length l) → l ≡ []
empty_list [] h = let e : [] ≡ [] = cc in e
empty_list (x ∷ xs) h = absurd (h (omega arith))

-- equal lists have equal last elements, and are equal before them
pub snoc_same : {X : Type 0} (xs ys : List X) (x y : X) → xs ++ x ∷ [] ≡ ys ++ y ∷ [] → (xs ≡ ys) × (x ≡ y)
snoc_same [] [] x y e = let a : [] ≡ [] = cc in (a, cc)
snoc_same [] (z ∷ zs) x y e = absurd (omega (arith, ap length e, length-append zs (y ∷ [])))
snoc_same (w ∷ ws) [] x y e = absurd (omega (arith, ap length e, length-append ws (x ∷ [])))
snoc_same (w ∷ ws) (z ∷ zs) x y e = let r = snoc_same ws zs x y cc in let a = r.0 in (cc, r.1)
