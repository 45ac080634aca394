-- Lists that are filled place by place.
use Rattle.std.proofs.Common.{◌≡◌, ◌≢◌, ℕ, zero, suc, ◌+◌, ◌<◌, ◌≤◌, refl, List, [], ◌∷◌, get_or, set, replicate, length, arith, ap, sym, ◌∙◌, ◌⊎◌, inl, inr, ◌-◌, take, drop, length-drop}
use Rattle.std.proofs.lemmas.List.{get_or-set_same, get_or-set_other}
use Rattle.std.proofs.Math.ListN.{length-set}
use borrow.Author.Count.{below_more}

pub past_end : {A : Type 0} (xs : List A) (k : ℕ) (d : A) → length xs ≤ k → get_or xs k d ≡ d
past_end [] k d h = refl
past_end (x ∷ xs) zero d h = absurd (omega arith)
past_end (x ∷ xs) (suc k) d h = past_end xs k d (omega arith)

pub same_read : {A : Type 0} (xs : List A) (i : ℕ) (d e : A) → i < length xs → get_or xs i d ≡ get_or xs i e
same_read [] i d e h = absurd (omega arith)
same_read (x ∷ xs) zero d e h = refl
same_read (x ∷ xs) (suc i) d e h = same_read xs i d e (omega arith)

filled : {A : Type 0} (xs ys zs : List A) (f : A → A → A) (d x : A) (i n : ℕ) → length xs ≡ n → i < n →
    ((k : ℕ) → k < i → get_or xs k d ≡ f (get_or ys k d) (get_or zs k d)) → x ≡ f (get_or ys i d) (get_or zs i d) →
    (length (set xs i x) ≡ n) × ((k : ℕ) → k < i + 1 → get_or (set xs i x) k d ≡ f (get_or ys k d) (get_or zs k d))
filled xs ys zs f d x i n len lt h e = (
  length-set xs i x ∙ len,
  below_more _ _ (λ k lt. let ne : k ≢ i = omega arith in get_or-set_other xs i k x d ne ∙ h k lt)
      (let there : i < length xs = omega arith in get_or-set_same xs i x d there ∙ e),
)

-- one more place is filled, whatever the default of the reads
pub filled_from : {A : Type 0} (xs ys zs : List A) (f : A → A → A) (d e x : A) (i n : ℕ) → length xs ≡ n → length ys ≡ n → length zs ≡ n → i < n →
    ((k : ℕ) → k < i → get_or xs k d ≡ f (get_or ys k d) (get_or zs k d)) → x ≡ f (get_or ys i e) (get_or zs i e) →
    (length (set xs i x) ≡ n) × ((k : ℕ) → k < i + 1 → get_or (set xs i x) k d ≡ f (get_or ys k d) (get_or zs k d))
filled_from {A = A} xs ys zs f d e x i n len ly lz lt h is =
    filled xs ys zs f d x i n len lt h (is ∙ ap (λ (y : A). f y (get_or zs i e)) (same_read ys i e d (omega arith)) ∙ ap (λ (z : A). f (get_or ys i d) z) (same_read zs i e d (omega arith)))

-- one more place is changed, and those after it aren't yet, whatever the default of the reads
pub changed_from : {A : Type 0} (xs ys zs : List A) (f : A → A → A) (d e x : A) (i n : ℕ) → length xs ≡ n → length ys ≡ n → length zs ≡ n → i < n →
    ((k : ℕ) → k < i → get_or xs k d ≡ f (get_or ys k d) (get_or zs k d)) → ((k : ℕ) → i ≤ k → get_or xs k d ≡ get_or ys k d) → x ≡ f (get_or xs i e) (get_or zs i e) →
    (length (set xs i x) ≡ n) × ((k : ℕ) → k < i + 1 → get_or (set xs i x) k d ≡ f (get_or ys k d) (get_or zs k d)) × ((k : ℕ) → i + 1 ≤ k → get_or (set xs i x) k d ≡ get_or ys k d)
changed_from {A = A} xs ys zs f d e x i n len ly lz lt done left is =
    let old : get_or xs i e ≡ get_or ys i e = same_read xs i e d (omega arith) ∙ left i (omega arith) ∙ same_read ys i d e (omega arith) in
    let base = filled_from xs ys zs f d e x i n len ly lz lt done (is ∙ ap (λ (y : A). f y (get_or zs i e)) old) in (
      base.0,
      base.1,
      λ k after. let ne : k ≢ i = omega arith in get_or-set_other xs i k x d ne ∙ left k (omega arith),
    )

-- one more place stays, and those after it aren't changed yet
pub kept_from : {A : Type 0} (xs ys zs : List A) (f : A → A → A) (d : A) (i n : ℕ) → length xs ≡ n →
    ((k : ℕ) → k < i → get_or xs k d ≡ f (get_or ys k d) (get_or zs k d)) → ((k : ℕ) → i ≤ k → get_or xs k d ≡ get_or ys k d) → f (get_or xs i d) (get_or zs i d) ≡ get_or xs i d →
    (length xs ≡ n) × ((k : ℕ) → k < i + 1 → get_or xs k d ≡ f (get_or ys k d) (get_or zs k d)) × ((k : ℕ) → i + 1 ≤ k → get_or xs k d ≡ get_or ys k d)
kept_from {A = A} xs ys zs f d i n len done left same =
    (len, below_more _ _ done (sym same ∙ ap (λ (y : A). f y (get_or zs i d)) (left i (omega arith))), λ k after. left k (omega arith))

pub le_cases : (n k : ℕ) → (n ≤ k) ⊎ (k < n)
le_cases zero k = inl (omega arith)
le_cases (suc n) zero = inr (omega arith)
le_cases (suc n) (suc k) = elim (le_cases n k) [ inl h ↦ inl (omega arith) | inr h ↦ inr (omega arith) ]

-- past the end too
pub all_joined : {A : Type 0} (xs ys zs : List A) (f : A → A → A) (d : A) (n : ℕ) → length xs ≡ n → length ys ≡ n → length zs ≡ n → f d d ≡ d →
    ((k : ℕ) → k < n → get_or xs k d ≡ f (get_or ys k d) (get_or zs k d)) → (k : ℕ) → get_or xs k d ≡ f (get_or ys k d) (get_or zs k d)
all_joined {A = A} xs ys zs f d n lx ly lz id h k = by (le_cases n k)
  where
    by : (n ≤ k) ⊎ (k < n) → get_or xs k d ≡ f (get_or ys k d) (get_or zs k d)
    by (inl past) = past_end xs k d (omega arith) ∙ (sym id ∙ (ap (λ (y : A). f y d) (sym (past_end ys k d (omega arith))) ∙ ap (λ (z : A). f (get_or ys k d) z) (sym (past_end zs k d (omega arith)))))
    by (inr inside) = h k inside

pub get_replicate : {A : Type 0} (n j : ℕ) (x : A) → get_or (replicate n x) j x ≡ x
get_replicate zero j x = refl
get_replicate (suc n) zero x = refl
get_replicate (suc n) (suc j) x = get_replicate n j x

-- lists of one length with the same at each place
pub same_places : {A : Type 0} (xs ys : List A) (d : A) → length xs ≡ length ys → ((k : ℕ) → get_or xs k d ≡ get_or ys k d) → xs ≡ ys
same_places [] [] d l h = refl
same_places [] (y ∷ ys) d l h = absurd (omega arith)
same_places (x ∷ xs) [] d l h = absurd (omega arith)
same_places (x ∷ xs) (y ∷ ys) d l h =
    let tails : xs ≡ ys = same_places xs ys d (omega arith) (λ k. h (suc k)) in
    let heads : x ≡ y = h 0 in
    cc

-- the same at each place of theirs
pub all_copied : {A : Type 0} (xs ys : List A) (d : A) (n : ℕ) → length xs ≡ n → length ys ≡ n → ((k : ℕ) → k < n → get_or xs k d ≡ get_or ys k d) → xs ≡ ys
all_copied {A = A} xs ys d n lx ly h = same_places xs ys d (lx ∙ sym ly) (λ k. by k (le_cases n k))
  where
    by : (k : ℕ) → (n ≤ k) ⊎ (k < n) → get_or xs k d ≡ get_or ys k d
    by k (inl past) = past_end xs k d (omega arith) ∙ sym (past_end ys k d (omega arith))
    by k (inr inside) = h k inside

-- a slice from a place on is the rest
take_enough : {A : Type 0} (n : ℕ) (xs : List A) → length xs ≤ n → take n xs ≡ xs
take_enough zero [] h = refl
take_enough zero (x ∷ xs) h = absurd (omega arith)
take_enough (suc n) [] h = refl
take_enough {A = A} (suc n) (x ∷ xs) h = ap (λ (ys : List A). x ∷ ys) (take_enough n xs (omega arith))

pub slice_rest : {A : Type 0} (xs : List A) (i : ℕ) → take (length xs - i) (drop i xs) ≡ drop i xs
slice_rest xs i = take_enough (length xs - i) (drop i xs) (omega (arith, length-drop i xs))
