-- The numbers of lists lie at the places of their counters.
use Rattle.std.proofs.Common.{◌≡◌, ◌∙◌, ℕ, zero, suc, ◌+◌, ◌*◌, ◌^◌, ◌<◌, List, [], ◌∷◌, ◌++◌, All, append_assoc, get_or, length, length-append, slice_get, slice_index, take, zero-add, refl, sym, ap, subst, arith}
use mathlib.Core.Logic.{dite}
use native.Mathlib.Decide.{dec_lt}
use Rattle.std.proofs.lemmas.List.{append-nil, get_or_append_left, get_or-append-add}
use Rattle.std.proofs.lemmas.Grind.{same_number_lists}
use Rattle.std.proofs.lemmas.List.FromFn.{get_or-map-range_with_len, length-map-range_with_len}
use Rattle.bpf_maps.specs.Beginning.{numbers_of, width_of}
use Rattle.bpf_maps.specs.Layout.{place_of, size, total}
use Rattle.bpf_maps.specs.Numbers.{filled, laid}
use Rattle.bpf_maps.proofs.PlaceLemmas.{within}
use Rattle.bpf_note.specs.Shape.{IsCounter, Shape}

pub filled_long : (n : ℕ) (xs : List ℕ) → length (filled n xs) ≡ n
filled_long n xs = length-map-range_with_len (λ (i : ℕ). slice_index xs i) 0 n

filled_at : (n i : ℕ) (xs : List ℕ) → i < n → get_or (filled n xs) i 0 ≡ get_or xs i 0
filled_at n i xs h = get_or-map-range_with_len (λ (i : ℕ). slice_index xs i) 0 n i i 0 h (omega arith)

-- all numbers of a list
pub filled_all : (xs : List ℕ) → filled (length xs) xs ≡ xs
filled_all xs = same_number_lists (filled (length xs) xs) xs (filled_long (length xs) xs) (λ k h. filled_at (length xs) k xs (let e = filled_long (length xs) xs in omega (arith, h, e)))

-- one map more
pub laid_more : (m : ℕ) (ss : List Shape) (lists : List (List ℕ)) (i : ℕ) (d : Shape) → i < length ss
    → laid m (take (suc i) ss) lists ≡ laid m (take i ss) lists ++ filled (size (get_or ss i d)) (numbers_of (slice_get lists (m + i)))
laid_more m [] lists i d h = absurd (omega arith)
laid_more m (s ∷ ss) lists zero d h =
    let here : m ≡ m + 0 = omega arith in
    append-nil (filled (size s) (numbers_of (slice_get lists m))) ∙ ap (λ (k : ℕ). filled (size s) (numbers_of (slice_get lists k))) here
laid_more m (s ∷ ss) lists (suc i) d h =
    let first : List ℕ = filled (size s) (numbers_of (slice_get lists m)) in
    let next : suc m + i ≡ m + suc i = omega arith in
    ap (λ (l : List ℕ). first ++ l) (laid_more (suc m) ss lists i d (omega arith) ∙ ap (λ (k : ℕ). laid (suc m) (take i ss) lists ++ filled (size (get_or ss i d)) (numbers_of (slice_get lists k))) next)
    ∙ sym (append_assoc first (laid (suc m) (take i ss) lists) (filled (size (get_or ss i d)) (numbers_of (slice_get lists (m + suc i)))))

-- the same of all maps
pub laid_next : (ss : List Shape) (lists : List (List ℕ)) (i : ℕ) (d : Shape) → i < length ss
    → laid 0 (take (suc i) ss) lists ≡ laid 0 (take i ss) lists ++ filled (size (get_or ss i d)) (numbers_of (slice_get lists i))
laid_next ss lists i d h = laid_more 0 ss lists i d h
    ∙ ap (λ (k : ℕ). laid 0 (take i ss) lists ++ filled (size (get_or ss i d)) (numbers_of (slice_get lists k))) (zero-add i)

pub laid_long : (m : ℕ) (ss : List Shape) (lists : List (List ℕ)) → length (laid m ss lists) ≡ total ss
laid_long m [] lists = refl
laid_long m (s ∷ ss) lists =
    let first : List ℕ = filled (size s) (numbers_of (slice_get lists m)) in
    let x : ℕ = size s in
    let a : length first ≡ x = filled_long (size s) (numbers_of (slice_get lists m)) in
    let b = laid_long (suc m) ss lists in
    let c = length-append first (laid (suc m) ss lists) in
    let d : total (s ∷ ss) ≡ x + total ss = refl in omega arith

pub laid_at : (n : ℕ) (ss : List Shape) (lists : List (List ℕ)) (m k j : ℕ) → IsCounter ss m k j
    → get_or (laid n ss lists) (place_of ss m k j) 0 ≡ get_or (numbers_of (slice_get lists (n + m))) (width_of (slice_get ss m) * k + j) 0
laid_at n [] lists m k j h = absurd h
laid_at n (s ∷ ss) lists zero k j h =
    let xs : List ℕ = numbers_of (slice_get lists n) in
    let place : ℕ = s.counters * k + j in
    let below : place < size s = alone s k j h in
    let here : n ≡ n + 0 = omega arith in
    get_or_append_left (filled (size s) xs) (laid (suc n) ss lists) 0 place (subst (λ (l : ℕ). place < l) (sym (filled_long (size s) xs)) below)
    ∙ filled_at (size s) place xs below
    ∙ ap (λ (q : ℕ). get_or (numbers_of (slice_get lists q)) place 0) here
  where
    alone : (s : Shape) (k j : ℕ) → IsCounter (s ∷ []) 0 k j → s.counters * k + j < size s
    alone s k j h = let r = within (s ∷ []) 0 k j h in let x : ℕ = size s in let y : ℕ = s.counters * k + j in let t : y < x + 0 = r in let u : y < x = omega arith in u
laid_at n (s ∷ ss) lists (suc m) k j h =
    let xs : List ℕ = filled (size s) (numbers_of (slice_get lists n)) in
    let next : suc n + m ≡ n + suc m = omega arith in
    ap (λ (q : ℕ). get_or (xs ++ laid (suc n) ss lists) (q + place_of ss m k j) 0) (sym (filled_long (size s) (numbers_of (slice_get lists n))))
    ∙ get_or-append-add xs (laid (suc n) ss lists) (place_of ss m k j) 0
    ∙ laid_at (suc n) ss lists m k j h
    ∙ ap (λ (q : ℕ). get_or (numbers_of (slice_get lists q)) (width_of (slice_get ss m) * k + j) 0) next

pub laid_first : (ss : List Shape) (lists : List (List ℕ)) (m k j : ℕ) → IsCounter ss m k j
    → get_or (laid 0 ss lists) (place_of ss m k j) 0 ≡ get_or (numbers_of (slice_get lists m)) (width_of (slice_get ss m) * k + j) 0
laid_first ss lists m k j h = laid_at 0 ss lists m k j h ∙ ap (λ (q : ℕ). get_or (numbers_of (slice_get lists q)) (width_of (slice_get ss m) * k + j) 0) (zero-add m)

-- where all numbers are small, so is each place's, also past the end
pub small_place : (xs : List ℕ) (i : ℕ) → All (λ (n : ℕ). n < 2 ^ 64) xs → get_or xs i 0 < 2 ^ 64
small_place xs i small = dite (dec_lt i (length xs)) (λ h. small i 0 h) (λ n. let z : get_or xs i 0 ≡ 0 = past xs i n in let u : get_or xs i 0 < 18446744073709551616 = omega arith in u)
  where
    past : (xs : List ℕ) (i : ℕ) → (i < length xs → ⊥) → get_or xs i 0 ≡ 0
    past [] i n = refl
    past (x ∷ xs) zero n = absurd (n (omega arith))
    past (x ∷ xs) (suc i) n = past xs i (λ h. n (omega arith))
