-- One more operation in a history.
use Rattle.std.proofs.Common.{◌≡◌, ◌≢◌, ℕ, zero, suc, ◌+◌, ◌%◌, ◌^◌, ◌<◌, eqb, Bool, cond, List, [], ◌∷◌, ◌++◌, map, filter, length, sum_by, take, slice_get, Some, sym, refl, ap, ◌∙◌, subst, ⊎_elim, ◌⊎◌, inl, inr, arith, eq-eqb, ne_eqb, add-zero, zero-add}
use mathlib.Core.Logic.{dite}
use native.Mathlib.Decide.{ℕ_discrete}
use Rattle.std.proofs.lemmas.Bool.Decides.{nat_tests}
use Rattle.bpf_note.specs.declared.op.Op.TheVariants.{Add}
use Rattle.std.proofs.lemmas.List.{map-append, take-append-le}
use Rattle.std.proofs.lemmas.List.Sums.{sum_by-append}
use Rattle.std.proofs.lemmas.List.Elements.{filter-append}
use Rattle.std.proofs.lemmas.Option.{slice_get_within}
use Rattle.std.proofs.Math.Nat.{add-mod, mod-mod}
use Rattle.bpf_note.specs.declared.op.Op.{Op}
use Rattle.bpf_note.specs.History.{Made, found, map_of, value_of, counter_of, added, left_in, share}
use Rattle.bpf_maps.specs.Beginning.{Beginning, BeginsAsEver, IsLegalFrom, left_from}

-- an element of a list with one more at its end
at_more : (h : List Made) (e : Made) (i : ℕ) (x : Made) → slice_get (h ++ e ∷ []) i ≡ Some x → (slice_get h i ≡ Some x) ⊎ ((i ≡ length h) × (e ≡ x))
at_more [] e zero x is = inr (refl, cc)
at_more [] e (suc i) x is = absurd (cc)
at_more (y ∷ ys) e zero x is = inl is
at_more (y ∷ ys) e (suc i) x is = ⊎_elim inl (λ (t : (i ≡ length ys) × (e ≡ x)). inr (ap suc t.0, t.1)) (at_more ys e i x is)

take_whole : (h ys : List Made) → take (length h) (h ++ ys) ≡ h
take_whole [] ys = refl
take_whole (x ∷ xs) ys = ap (λ (l : List Made). x ∷ l) (take_whole xs ys)

-- an operation that found what the history leaves may follow it
pub legal_from : (b : Beginning) (h : List Made) (q : ℕ) (o : Op) → IsLegalFrom b h → found o ≡ left_from b (map_of o) (value_of o) (counter_of o) h → IsLegalFrom b (h ++ (q, o) ∷ [])
legal_from b h q o legal is i e at = ⊎_elim
    (λ (old : slice_get h i ≡ Some e). let inside : i < length h = slice_get_within h i e old in
    let same : take i (h ++ (q, o) ∷ []) ≡ take i h = take-append-le i h ((q, o) ∷ []) (omega arith) in
    legal i e old ∙ ap (left_from b (map_of e.1) (value_of e.1) (counter_of e.1)) (sym same))
    (λ (t : (i ≡ length h) × ((q, o) ≡ e)). let whole : take i (h ++ (q, o) ∷ []) ≡ h = ap (λ (n : ℕ). take n (h ++ (q, o) ∷ [])) t.0 ∙ take_whole h ((q, o) ∷ []) in
    subst (λ (z : Made). found z.1 ≡ left_from b (map_of z.1) (value_of z.1) (counter_of z.1) (take i (h ++ (q, o) ∷ []))) t.1 (is ∙ ap (left_from b (map_of o) (value_of o) (counter_of o)) (sym whole)))
    (at_more h (q, o) i e at)

pub left_from_more : (b : Beginning) (m k j : ℕ) (h : List Made) (q : ℕ) (o : Op) → left_from b m k j (h ++ (q, o) ∷ []) ≡ (left_from b m k j h + added m k j o) % 2 ^ 64
left_from_more b m k j h q o =
    let f : Made → ℕ = λ e. added m k j e.1 in
    let before : ℕ = b m k j + sum_by f h in
    let total : b m k j + sum_by f (h ++ (q, o) ∷ []) ≡ before + added m k j o = omega (arith, sum_by-append f h ((q, o) ∷ [])) in
    ap (λ (n : ℕ). n % 18446744073709551616) total ∙ (add-mod before (added m k j o) 18446744073709551616
    ∙ (ap (λ (n : ℕ). (n + added m k j o % 18446744073709551616) % 18446744073709551616) (sym (mod-mod before 18446744073709551616))
    ∙ sym (add-mod (before % 18446744073709551616) (added m k j o) 18446744073709551616)))

pub share_mine : (q : ℕ) (h : List Made) (o : Op) → share q (h ++ (q, o) ∷ []) ≡ share q h ++ o ∷ []
share_mine q h o =
    let p : Made → Bool = λ e. eqb q e.0 in
    let last : filter p ((q, o) ∷ []) ≡ (q, o) ∷ [] = ap (λ (b : Bool). cond b ((q, o) ∷ []) []) (eq-eqb q q refl) in
    ap (map (λ (e : Made). e.1)) (filter-append p h ((q, o) ∷ []) ∙ ap (λ (l : List Made). filter p h ++ l) last) ∙ map-append (λ (e : Made). e.1) (filter p h) ((q, o) ∷ [])

append_none : (l : List Made) → l ++ [] ≡ l
append_none [] = refl
append_none (x ∷ xs) = ap (λ (l : List Made). x ∷ l) (append_none xs)

pub share_other : (q r : ℕ) (h : List Made) (o : Op) → r ≢ q → share r (h ++ (q, o) ∷ []) ≡ share r h
share_other q r h o apart =
    let p : Made → Bool = λ e. eqb r e.0 in
    let last : filter p ((q, o) ∷ []) ≡ [] = ap (λ (b : Bool). cond b ((q, o) ∷ []) []) (ne_eqb r q apart) in
    ap (map (λ (e : Made). e.1)) (filter-append p h ((q, o) ∷ []) ∙ (ap (λ (l : List Made). filter p h ++ l) last ∙ append_none (filter p h)))

-- a load adds nothing, and an add elsewhere neither
pub both_same : (m k j m' k' j' : ℕ) → Dec ((m ≡ m') × (k ≡ k') × (j ≡ j'))
both_same m k j m' k' j' = dite (ℕ_discrete m m') (λ e. dite (ℕ_discrete k k') (λ f. dite (ℕ_discrete j j') (λ g. yes (e, f, g)) (λ n. no (λ t. n t.2))) (λ n. no (λ t. n t.1))) (λ n. no (λ t. n t.0))

pub left_from_same : (b : Beginning) (m k j : ℕ) (h : List Made) (d : ℕ) → d ≡ 0 → (left_from b m k j h + d) % 2 ^ 64 ≡ left_from b m k j h
left_from_same b m k j h d e = ap (λ (x : ℕ). (left_from b m k j h + x) % 18446744073709551616) e ∙ (ap (λ (x : ℕ). x % 18446744073709551616) (add-zero (left_from b m k j h)) ∙ mod-mod (b m k j + sum_by (λ (x : Made). added m k j x.1) h) 18446744073709551616)

pub adds_elsewhere : (m k j m' k' j' delta old : ℕ) → ¬ ((m ≡ m') × (k ≡ k') × (j ≡ j')) → added m k j (Add m' k' j' delta old) ≡ 0
adds_elsewhere m k j m' k' j' delta old apart = grind (arith, nat_tests)

pub adds_here : (m k j delta old : ℕ) → added m k j (Add m k j delta old) ≡ delta
adds_here m k j delta old = grind (arith, nat_tests)

-- counters that begin with 0
pub left_ever : (b : Beginning) → ((m k j : ℕ) → b m k j ≡ 0) → (h : List Made) (m k j : ℕ) → left_from b m k j h ≡ left_in m k j h
left_ever b none h m k j = ap (λ (n : ℕ). (n + sum_by (λ (e : Made). added m k j e.1) h) % 18446744073709551616) (none m k j) ∙ ap (λ (n : ℕ). n % 18446744073709551616) (zero-add (sum_by (λ (e : Made). added m k j e.1) h))

pub as_ever : (b : Beginning) → ((m k j : ℕ) → b m k j ≡ 0) → BeginsAsEver b
as_ever b none history = (
  left_ever b none history,
  (λ legal i e at. legal i e at ∙ left_ever b none (take i history) _ _ _, λ legal i e at. legal i e at ∙ sym (left_ever b none (take i history) _ _ _)),
)
