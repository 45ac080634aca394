-- What an order gives: numbers, ranks, no cycle. And that an order is whole where there is no cycle.
use Rattle.std.proofs.Common.{◌≡◌, ◌≢◌, ◌<◌, ◌≤◌, ◌+◌, ◌-◌, ℕ, zero, suc, length, List, [], ◌∷◌, ◌++◌, arith, sym, ◌∙◌, refl, subst, ap, inl, inr, Bool, true, false, length-append}
use Rattle.std.specs.Prelude.{◌⊎◌, Contains, if◌then◌else◌, ◌==◌}
use Rattle.std.proofs.lemmas.Bool.{cases_lt}
use Rattle.std.proofs.lemmas.Bool.Decides.{nat_tests}
use Rattle.std.proofs.lemmas.List.Elements.{Contains-append_left, Contains-append_cases}
use Rattle.bpf_verify.specs.Paths.{Reaches, here, along, IsRank}
use Rattle.bpf_verify.specs.Marks.{marked, IsLeft}
use Rattle.bpf_verify.specs.Orders.{Takes, none, more}
use Rattle.bpf_verify.proofs.CycleLemmas.{OneOf, Circles, HasPred, stuck}
use Rattle.bpf_verify.proofs.SearchLemmas.{the_one}
use Rattle.bpf_verify.proofs.WayLemmas.{marked_inside}

-- a number for each slot that is taken, which rises along each edge
pub record IsNumbering (Edge : ℕ → ℕ → Type 0) (In : ℕ → Type 0) (taken : List ℕ) (num : ℕ → ℕ) : Type 0 where
  pub small : (q : ℕ) → Contains taken q → num q < length taken
  pub rises : (p q : ℕ) → In p → Edge p q → Contains taken q → num p < num q

-- a function changed at one place
abbrev pub put : (ℕ → ℕ) → ℕ → ℕ → ℕ → ℕ
put f k v q = if q == k then v else f q

put_same_by : (b : Bool) (k q v w : ℕ) → b ≡ (q == k) → q ≡ k → (if b then v else w) ≡ v
put_same_by true k q v w e same = refl
put_same_by false k q v w e same = absurd (grind (arith, nat_tests))

put_other_by : (b : Bool) (k q v w : ℕ) → b ≡ (q == k) → q ≢ k → (if b then v else w) ≡ w
put_other_by false k q v w e other = refl
put_other_by true k q v w e other = absurd (other (grind (arith, nat_tests)))

put_same : (f : ℕ → ℕ) (k v q : ℕ) → q ≡ k → put f k v q ≡ v
put_same f k v q e = put_same_by (q == k) k q v (f q) refl e

put_other : (f : ℕ → ℕ) (k v q : ℕ) → q ≢ k → put f k v q ≡ f q
put_other f k v q e = put_other_by (q == k) k q v (f q) refl e

-- what leads to a taken slot is taken
pub taken_preds : {Edge : ℕ → ℕ → Type 0} {In : ℕ → Type 0} {xs : List ℕ} → Takes Edge In xs → (p q : ℕ) → In p → Edge p q → Contains xs q → Contains xs p
taken_preds none p q on e at = absurd (omega (arith, at.1))
taken_preds {Edge = Edge} (more {taken = taken} {p = c} t ready low) p q on e at = elim (Contains-append_cases taken (c ∷ []) q at) [
  | inl old ↦ Contains-append_left taken (c ∷ []) p (taken_preds t p q on e old)
  | inr new ↦ Contains-append_left taken (c ∷ []) p (ready.preds p on (subst (λ (r : ℕ). Edge p r) (the_one c q new) e))
]

pub last_length : {A : Type 0} (taken : List A) (c : A) → length (taken ++ c ∷ []) ≡ length taken + 1
last_length taken c = simp length-append

-- an order numbers what is taken
pub numbered : {Edge : ℕ → ℕ → Type 0} {In : ℕ → Type 0} {xs : List ℕ} → Takes Edge In xs → (num : ℕ → ℕ) × IsNumbering Edge In xs num
numbered none = (λ q. 0, record { small = λ q at. absurd (omega (arith, at.1)); rises = λ p q on e at. absurd (omega (arith, at.1)) })
numbered {Edge = Edge} {In = In} (more {taken = taken} {p = c} t ready low) =
    let before = numbered t in
    let num = before.0 in
    let new = put num c (length taken) in
    let old_is : (q : ℕ) → Contains taken q → new q ≡ num q = λ q at. put_other num c (length taken) q (λ e. ready.open' (subst (λ (r : ℕ). Contains taken r) e at)) in (
      new,
      record {
        small = λ q at. let len = last_length taken c in elim (Contains-append_cases taken (c ∷ []) q at) [
          | inl old ↦ let s = before.1.small q old in let is = old_is q old in omega (arith, s, is, len)
          | inr last ↦ let is = put_same num c (length taken) q (the_one c q last) in omega (arith, is, len)
        ];
        rises = λ p q on e at. elim (Contains-append_cases taken (c ∷ []) q at) [
          | inl old ↦
              let pred = taken_preds t p q on e old in
              let up = before.1.rises p q on e old in
              let is = old_is p pred in let is' = old_is q old in omega (arith, up, is, is')
          | inr last ↦
              let same = the_one c q last in
              let pred = ready.preds p on (subst (λ (r : ℕ). Edge p r) same e) in
              let s = before.1.small p pred in
              let is = old_is p pred in let is' = put_same num c (length taken) q same in omega (arith, s, is, is')
        ];
      },
    )

-- ranks, where all that edges lead from and to is taken
pub ranked : {Edge : ℕ → ℕ → Type 0} {In : ℕ → Type 0} {xs : List ℕ} → Takes Edge In xs → ((p q : ℕ) → Edge p q → In p × Contains xs p × Contains xs q) →
    (rank : ℕ → ℕ) × IsRank Edge rank × ((p : ℕ) → Contains xs p → rank p < length xs)
ranked {xs = xs} t all =
    let n = numbered t in (
      λ q. length xs - suc (n.0 q),
      record { falls = λ p q e. let a = all p q e in let up = n.1.rises p q a.0 e a.2 in let s = n.1.small q a.2 in omega (arith, up, s) },
      λ p at. let s = n.1.small p at in omega (arith, s),
    )

-- a path of one edge or more falls
pub rank_along : {Edge : ℕ → ℕ → Type 0} {rank : ℕ → ℕ} {p q : ℕ} → IsRank Edge rank → Reaches Edge p q → rank q ≤ rank p
rank_along r here = omega arith
rank_along r (along {p = p} {q = s} e l) = let rest = rank_along r l in let one = r.falls p s e in omega (arith, rest, one)

pub rank_circle : {Edge : ℕ → ℕ → Type 0} {rank : ℕ → ℕ} (p : ℕ) → IsRank Edge rank → Circles Edge p p → ⊥
rank_circle p r c = let one = r.falls p c.via c.edge in let rest = rank_along r c.rest in absurd (omega (arith, one, rest))

-- the marked slots below n
alive : List Bool → ℕ → List ℕ
alive m zero = []
alive m (suc k) = if marked m k then k ∷ alive m k else alive m k

alive_has_by : (b : Bool) (k q : ℕ) (xs : List ℕ) → ((q ≡ k) × (b ≡ true)) ⊎ OneOf xs q → OneOf (if b then k ∷ xs else xs) q
alive_has_by true k q xs (inl e) = inl e.0
alive_has_by false k q xs (inl e) = let f : false ≡ true = e.1 in absurd (cc)
alive_has_by true k q xs (inr at) = inr at
alive_has_by false k q xs (inr at) = at

alive_is_by : (b : Bool) (k q : ℕ) (xs : List ℕ) → OneOf (if b then k ∷ xs else xs) q → ((q ≡ k) × (b ≡ true)) ⊎ OneOf xs q
alive_is_by true k q xs (inl e) = inl (e, refl)
alive_is_by true k q xs (inr at) = inr at
alive_is_by false k q xs at = inr at

alive_has : (m : List Bool) (n q : ℕ) → q < n → marked m q ≡ true → OneOf (alive m n) q
unfolding alive
alive_has m zero q low on = absurd (omega arith)
alive_has m (suc k) q low on = alive_has_by (marked m k) k q (alive m k)
    (elim (cases_lt q k) [ inl l ↦ inr (alive_has m k q l on) | inr h ↦ let e : q ≡ k = omega arith in inl (e, ap (marked m) (sym e) ∙ on) ])

alive_is : (m : List Bool) (n q : ℕ) → OneOf (alive m n) q → marked m q ≡ true
unfolding alive
alive_is m zero q at = absurd at
alive_is m (suc k) q at = elim (alive_is_by (marked m k) k q (alive m k) at) [ inl e ↦ ap (marked m) e.0 ∙ e.1 | inr rest ↦ alive_is m k q rest ]

emptied : {Edge : ℕ → ℕ → Type 0} (xs : List ℕ) → ((q : ℕ) → OneOf xs q → HasPred Edge xs q) → ((p : ℕ) → Circles Edge p p → ⊥) → (q : ℕ) → OneOf xs q → ⊥
emptied [] all acyclic q at = at
emptied (x ∷ xs) all acyclic q at = let c = stuck x xs all in acyclic c.0 c.1

-- without a cycle nothing is left
pub whole : (Edge : ℕ → ℕ → Type 0) (start left : List Bool) (taken : List ℕ) → IsLeft Edge start taken left → ((p : ℕ) → Circles Edge p p → ⊥) → (q : ℕ) → marked start q ≡ true → Contains taken q
whole Edge start left taken l acyclic q on = elim (l.rest q on) [
  | inl at ↦ at
  | inr alive' ↦ absurd (emptied (alive left (length left))
      (λ r at. let w = l.waits r (alive_is left (length left) r at) in (w.0, alive_has left (length left) w.0 (marked_inside left w.0 w.1) w.1, record { via = r; edge = w.2; rest = here }))
      acyclic q (alive_has left (length left) q (marked_inside left q alive') alive'))
]
