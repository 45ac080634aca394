-- The order of the queues: numbers that fall, taken from the end, rise.
use Rattle.std.proofs.Common.{◌≡◌, ◌<◌, ◌+◌, ℕ, zero, suc, List, [], ◌∷◌, ◌++◌, Contains, map, length, length-append, ap, sym, refl, subst, ◌∙◌, ◌⊎◌, inl, inr, arith}
use Rattle.std.specs.List.{range_with_len}
use Rattle.std.proofs.lemmas.List.{append_assoc, map-append}
use Rattle.std.proofs.lemmas.List.Elements.{Contains-push, Contains-append_left}
use Rattle.thread_pair.specs.Resources.{falling}
use Rattle.thread_pair.proofs.ReturnLemmas.{snoc_same}

pub length_falling : (n : ℕ) → length (falling n) ≡ n
length_falling zero = refl
length_falling (suc n) = let h = length_falling n in omega (arith, h)

range_more : (a n j : ℕ) → a + n ≡ j → range_with_len a (suc n) ≡ range_with_len a n ++ j ∷ []
range_more a zero j e = let same : a ≡ j = omega (arith, e) in ap (λ (k : ℕ). k ∷ []) same
range_more a (suc n) j e = ap (λ (l : List ℕ). a ∷ l) (range_more (a + 1) n j (omega (arith, e)))

equal_lists : (a b : ℕ) (xs ys : List ℕ) → a ∷ xs ≡ b ∷ ys → (a ≡ b) × (xs ≡ ys)
equal_lists a b xs ys e = (cc, cc)

module _ {X : Type 0} (f : X → ℕ) where
  -- the next lower number is added
  pub pushed_falls : (xs : List X) (x : X) (m n : ℕ) → f x ≡ m → map f xs ++ falling (suc m) ≡ falling n → map f (xs ++ x ∷ []) ++ falling m ≡ falling n
  pushed_falls xs x m n is before =
      ap (λ (l : List ℕ). l ++ falling m) (map-append f xs (x ∷ [])) ∙ (append_assoc (map f xs) (f x ∷ []) (falling m) ∙ (ap (λ (k : ℕ). map f xs ++ (k ∷ falling m)) is ∙ before))

  -- the last of falling numbers is the lowest
  pub popped_falls : (xs : List X) (x : X) (k n : ℕ) → map f (xs ++ x ∷ []) ++ falling k ≡ falling n → (f x ≡ k) × (map f xs ++ falling (suc k) ≡ falling n)
  popped_falls [] x k zero e = absurd (let l = ap length e in omega (arith, l))
  popped_falls [] x k (suc n) e =
      let both = equal_lists (f x) n (falling k) (falling n) e in
      let same : k ≡ n = (let l = ap length both.1 in let a = length_falling k in let b = length_falling n in omega (arith, l, a, b)) in
      (both.0 ∙ sym same, ap (λ (m : ℕ). falling (suc m)) same)
  popped_falls (y ∷ ys) x k zero e = absurd (let l = ap length e in omega (arith, l))
  popped_falls (y ∷ ys) x k (suc n) e =
      let both = equal_lists (f y) n (map f (ys ++ x ∷ []) ++ falling k) (falling n) e in
      let rest = popped_falls ys x k n both.1 in
      (rest.0, ap (λ (m : ℕ). m ∷ (map f ys ++ falling (suc k))) both.0 ∙ ap (λ (l : List ℕ). n ∷ l) rest.1)

  -- the next higher number is added
  pub pushed_rises : (xs : List X) (x : X) → f x ≡ length xs → map f xs ≡ range_with_len 0 (length xs) → map f (xs ++ x ∷ []) ≡ range_with_len 0 (length (xs ++ x ∷ []))
  pushed_rises xs x is before =
      let n : length (xs ++ x ∷ []) ≡ suc (length xs) = omega (arith, length-append xs (x ∷ [])) in
      map-append f xs (x ∷ []) ∙ (ap (λ (l : List ℕ). l ++ f x ∷ []) before ∙ (ap (λ (k : ℕ). range_with_len 0 (length xs) ++ k ∷ []) is
      ∙ (sym (range_more 0 (length xs) (length xs) (omega arith)) ∙ ap (range_with_len 0) (sym n))))

  -- the last of rising numbers is the highest
  pub last_rises : (xs : List X) (x : X) → map f (xs ++ x ∷ []) ≡ range_with_len 0 (length (xs ++ x ∷ [])) → (f x ≡ length xs) × (map f xs ≡ range_with_len 0 (length xs))
  last_rises xs x e =
      let n : length (xs ++ x ∷ []) ≡ suc (length xs) = omega (arith, length-append xs (x ∷ [])) in
      let both = snoc_same (map f xs) (range_with_len 0 (length xs)) (f x) (length xs)
      (sym (map-append f xs (x ∷ [])) ∙ (e ∙ (ap (range_with_len 0) n ∙ range_more 0 (length xs) (length xs) (omega arith)))) in
      (both.1, both.0)

below_or_same : (q m : ℕ) → q < suc m → (q < m) ⊎ (q ≡ m)
below_or_same zero zero h = inr refl
below_or_same zero (suc m) h = inl (omega arith)
below_or_same (suc q) zero h = absurd (omega (arith, h))
below_or_same (suc q) (suc m) h = elim (below_or_same q m (omega (arith, h))) [ inl a ↦ inl (omega (arith, a)) | inr e ↦ inr (ap suc e) ]

-- a number is below the next, or is it, and then it's added
pub every_more : (q m n : ℕ) (ns : List ℕ) → n ≡ m → (q < suc m) ⊎ Contains ns q → (q < m) ⊎ Contains (ns ++ n ∷ []) q
every_more q m n ns same (inr there) = inr (Contains-append_left ns (n ∷ []) q there)
every_more q m n ns same (inl h) = elim (below_or_same q m h) [ inl a ↦ inl a | inr e ↦ inr (subst (λ (k : ℕ). Contains (ns ++ n ∷ []) k) (same ∙ sym e) (Contains-push ns n)) ]
