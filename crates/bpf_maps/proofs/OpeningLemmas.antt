-- The rule holds at the start, and each seat gets its number.
use Rattle.std.proofs.Common.{◌≡◌, ℕ, zero, suc, ◌+◌, ◌-◌, ◌%◌, ◌^◌, ◌<◌, ◌≤◌, ltb, cond, List, [], ◌∷◌, All, length, sum_by, get_or, sym, refl, ap, ◌∙◌, subst, arith}
use mathlib.Core.Logic.{dite}
use mathlib.Core.Option.{some, some-injective, some-ne-none}
use native.Mathlib.Decide.{ℕ_discrete, dec_lt}
use lib.ListN.{get_elem?}
use Rattle.std.proofs.lemmas.Bool.Decides.{nat_tests}
use Rattle.std.proofs.lemmas.List.Elements.{All-nil, All-cons, All-head, All-tail}
use Rattle.std.proofs.lemmas.List.Sums.{sum_by-cons}
use Rattle.atomic_table.specs.Table.{opening}
use Rattle.bpf_maps.specs.declared.view.Part.{Part}
use Rattle.bpf_maps.specs.declared.view.View.{View}
use Rattle.bpf_note.specs.Shape.{Shape}
use Rattle.bpf_maps.specs.Layout.{place_of, total}
use Rattle.bpf_note.specs.History.{Made, share}
use Rattle.bpf_maps.specs.Rule.{Kept, Fits, Sat, part, view, times, blanks, first_view, first_of, rest_of}
use Rattle.bpf_maps.proofs.ViewLemmas.{count, times_here, times_else}

none_below : (first n q : ℕ) → q < first → times q (blanks first n) ≡ 0
none_below first zero q h = refl
none_below first (suc n) q h = times_else q (part first []) (blanks (first + 1) n) (λ e. omega arith) ∙ none_below (first + 1) n q (omega arith)

none_above : (first n q : ℕ) → first + n ≤ q → times q (blanks first n) ≡ 0
none_above first zero q h = refl
none_above first (suc n) q h = times_else q (part first []) (blanks (first + 1) n) (λ e. omega arith) ∙ none_above (first + 1) n q (omega arith)

one_among : (first n q : ℕ) → first ≤ q → q < first + n → times q (blanks first n) ≡ 1
one_among first zero q h k = absurd (omega arith)
one_among first (suc n) q h k = dite (ℕ_discrete q first)
    (λ e. let a = times_here q (part first []) (blanks (first + 1) n) e in let b = none_below (first + 1) n q (omega arith) in omega arith)
    (λ ne. times_else q (part first []) (blanks (first + 1) n) ne ∙ one_among (first + 1) n q (omega arith) (omega arith))

each_once : (n q : ℕ) → times q (blanks 0 n) ≡ cond (ltb q n) 1 0
each_once n q = dite (dec_lt q n)
    (λ h. let a = one_among 0 n q (omega arith) (omega arith) in grind (arith, nat_tests))
    (λ h. let a = none_above 0 n q (omega arith) in grind (arith, nat_tests))

blanks_fit : (shapes : List Shape) (begin : List ℕ) (first n : ℕ) → All (λ (p : Part). (shapes ≡ shapes) × (begin ≡ begin) × (share p.number [] ≡ p.ops)) (blanks first n)
blanks_fit shapes begin first zero = All-nil (λ (p : Part). (shapes ≡ shapes) × (begin ≡ begin) × (share p.number [] ≡ p.ops))
blanks_fit shapes begin first (suc n) = All-cons (λ (p : Part). (shapes ≡ shapes) × (begin ≡ begin) × (share p.number [] ≡ p.ops)) (part first []) (blanks (first + 1) n) (refl, refl, refl) (blanks_fit shapes begin (first + 1) n)

-- a number below 2^64 is left as it is
small_at : (numbers : List ℕ) (i : ℕ) → All (λ (n : ℕ). n < 2 ^ 64) numbers → get_or numbers i 0 ≡ (get_or numbers i 0 + 0) % 2 ^ 64
small_at [] i small = refl
small_at (x ∷ xs) zero small = let low : x < 18446744073709551616 = All-head (λ (n : ℕ). n < 18446744073709551616) x xs small in omega arith
small_at (x ∷ xs) (suc i) small = small_at xs i (All-tail (λ (n : ℕ). n < 18446744073709551616) x xs small)

pub opens : (shapes : List Shape) (begin words : List ℕ) (seats : ℕ) → length begin ≡ total shapes → All (λ (n : ℕ). n < 2 ^ 64) begin → words ≡ 0 ∷ begin
    → Kept shapes begin seats (opening {S = Unit {0}} words [] (first_view shapes begin seats))
opens shapes begin words seats long small is =
    subst (λ (ws : List ℕ). Kept shapes begin seats (opening {S = Unit {0}} ws [] (first_view shapes begin seats))) (sym is) record {
      history = [];
      wide = ap suc long ∙ (let e : suc (total shapes) ≡ 1 + total shapes = omega arith in e);
      spare = refl;
      legal = λ i e at. absurd (cc);
      leaves = λ m k j h. ap (λ (i : ℕ). get_or (0 ∷ begin) i 0) (let e : 1 + place_of shapes m k j ≡ suc (place_of shapes m k j) = omega arith in e) ∙ small_at begin (place_of shapes m k j) small;
      shared = λ id v at. first_fits id v at;
      once = λ q. (let t = sum_by-cons (count q) (first_view shapes begin seats) [] in let u = each_once seats q in let z : sum_by (count q) [] ≡ 0 = refl in omega arith);
      no_others = All-nil (λ (e : Made). e.0 < seats);
    }
  where
    first_fits : (id : ℕ) (v : View) → get_elem? (first_view shapes begin seats ∷ []) id ≡ some v → Fits shapes begin [] v
    first_fits zero v at = subst (Fits shapes begin []) (some-injective (first_view shapes begin seats) v at) (blanks_fit shapes begin 0 seats)
    first_fits (suc id) v at = absurd (some-ne-none v (sym at))

pub blanks_more : (first n : ℕ) → first < n → blanks first (n - first) ≡ part first [] ∷ blanks (first + 1) (n - (first + 1))
blanks_more first n h = let e : n - first ≡ suc (n - (first + 1)) = omega arith in ap (blanks first) e

-- what the first seat of the table keeps, and what the new one gets
pub deal_step : (shapes : List Shape) (begin : List ℕ) (i n : ℕ) (me : Sat) → i < n → me ≡ (view shapes begin (blanks i (n - i)), [])
    → (view me.0.shapes me.0.begin (rest_of me.0.parts) ≡ view shapes begin (blanks (i + 1) (n - (i + 1)))) × (view me.0.shapes me.0.begin (first_of me.0.parts) ≡ view shapes begin (part i [] ∷ []))
deal_step shapes begin i n me h e =
    let sz : me.0.shapes ≡ shapes = ap (λ (m : Sat). m.0.shapes) e in
    let bg : me.0.begin ≡ begin = ap (λ (m : Sat). m.0.begin) e in
    let p : me.0.parts ≡ part i [] ∷ blanks (i + 1) (n - (i + 1)) = ap (λ (m : Sat). m.0.parts) e ∙ blanks_more i n h in
    ((λ k. view (sz k) (bg k) (rest_of (p k))), (λ k. view (sz k) (bg k) (first_of (p k))))
