-- Numbers in views: each stands once, so that a part of one view is in no other.
use Rattle.std.proofs.Common.{◌≡◌, ◌≢◌, ℕ, zero, suc, ◌+◌, ◌≤◌, eqb, Bool, cond, List, [], ◌∷◌, sum_by, set, sym, refl, ap, ◌∙◌, arith, eq-eqb, ne_eqb, zero-add}
use mathlib.Core.Option.{some, some-injective, some-ne-none}
use lib.ListN.{get_elem?}
use Rattle.std.proofs.lemmas.List.Sums.{sum_by-cons}
use Rattle.bpf_maps.specs.declared.view.Part.{Part}
use Rattle.bpf_maps.specs.declared.view.View.{View}
use Rattle.bpf_maps.specs.Rule.{times}

-- how often the number stands in a view
abbrev pub count : ℕ → View → ℕ
count q v = times q v.parts

-- the total after a change of one view
pub total_set : (q : ℕ) (views : List View) (id : ℕ) (v w : View) → get_elem? views id ≡ some v → sum_by (count q) (set views id w) + count q v ≡ sum_by (count q) views + count q w
total_set q [] id v w at = absurd (some-ne-none v (sym at))
total_set q (x ∷ xs) zero v w at =
    let is : count q x ≡ count q v = ap (count q) (some-injective x v at) in
    let a = sum_by-cons (count q) x xs in let b : sum_by (count q) (set (x ∷ xs) zero w) ≡ count q w + sum_by (count q) xs = sum_by-cons (count q) w xs in omega arith
total_set q (x ∷ xs) (suc id) v w at =
    let r = total_set q xs id v w at in let a = sum_by-cons (count q) x xs in
    let b : sum_by (count q) (set (x ∷ xs) (suc id) w) ≡ count q x + sum_by (count q) (set xs id w) = sum_by-cons (count q) x (set xs id w) in omega arith

-- one view's count is at most the total
pub total_above : (q : ℕ) (views : List View) (id : ℕ) (v : View) → get_elem? views id ≡ some v → count q v ≤ sum_by (count q) views
total_above q [] id v at = absurd (some-ne-none v (sym at))
total_above q (x ∷ xs) zero v at = let is : count q x ≡ count q v = ap (count q) (some-injective x v at) in let a = sum_by-cons (count q) x xs in omega arith
total_above q (x ∷ xs) (suc id) v at = let r = total_above q xs id v at in let a = sum_by-cons (count q) x xs in omega arith

-- so are two views' counts
pub two_above : (q : ℕ) (views : List View) (i j : ℕ) (v w : View) → i ≢ j → get_elem? views i ≡ some v → get_elem? views j ≡ some w → count q v + count q w ≤ sum_by (count q) views
two_above q [] i j v w n a b = absurd (some-ne-none v (sym a))
two_above q (x ∷ xs) zero zero v w n a b = absurd (n refl)
two_above q (x ∷ xs) zero (suc j) v w n a b = let is : count q x ≡ count q v = ap (count q) (some-injective x v a) in let t = sum_by-cons (count q) x xs in let r = total_above q xs j w b in omega arith
two_above q (x ∷ xs) (suc i) zero v w n a b = let is : count q x ≡ count q w = ap (count q) (some-injective x w b) in let t = sum_by-cons (count q) x xs in let r = total_above q xs i v a in omega arith
two_above q (x ∷ xs) (suc i) (suc j) v w n a b = let t = sum_by-cons (count q) x xs in let r = two_above q xs i j v w (λ e. n (ap suc e)) a b in omega arith

pub times_here : (q : ℕ) (p : Part) (ps : List Part) → q ≡ p.number → times q (p ∷ ps) ≡ 1 + times q ps
times_here q p ps e = sum_by-cons (λ (x : Part). cond (eqb q x.number) 1 0) p ps ∙ ap (λ (b : Bool). cond b 1 0 + times q ps) (eq-eqb q p.number e)

pub times_else : (q : ℕ) (p : Part) (ps : List Part) → q ≢ p.number → times q (p ∷ ps) ≡ times q ps
times_else q p ps n = sum_by-cons (λ (x : Part). cond (eqb q x.number) 1 0) p ps ∙ (ap (λ (b : Bool). cond b 1 0 + times q ps) (ne_eqb q p.number n) ∙ zero-add (times q ps))
