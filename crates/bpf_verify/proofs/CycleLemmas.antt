-- Cycles and orders, over any relation.
use Rattle.std.proofs.Common.{◌≡◌, ◌<◌, ◌≤◌, ℕ, List, [], ◌∷◌, arith, refl, subst, inl, inr}
use Rattle.std.specs.Prelude.{◌⊎◌}
use Rattle.std.proofs.lemmas.Bool.{cases_lt}
use Rattle.bpf_verify.specs.Paths.{Reaches, here, along}

-- an edge that doesn't go up, and lies on a cycle
pub record TurnsBack (Edge : ℕ → ℕ → Type 0) (p : ℕ) : Type 0 where
  pub to : ℕ
  pub edge : Edge p to
  pub back : to ≤ p
  pub returns : Reaches Edge to p

-- one of the list
abbrev pub OneOf : List ℕ → ℕ → Type 0
OneOf [] q = ⊥
OneOf (x ∷ xs) q = (q ≡ x) ⊎ OneOf xs q

-- a path of one edge or more
pub record Circles (Edge : ℕ → ℕ → Type 0) (p q : ℕ) : Type 0 where
  pub via : ℕ
  pub edge : Edge p via
  pub rest : Reaches Edge via q

pub joined : {Edge : ℕ → ℕ → Type 0} {p q r : ℕ} → Reaches Edge p q → Reaches Edge q r → Reaches Edge p r
joined here l = l
joined (along e k) l = along e (joined k l)

pub one_more : {Edge : ℕ → ℕ → Type 0} {p q r : ℕ} → Reaches Edge p q → Edge q r → Reaches Edge p r
one_more l e = joined l (along e here)

pub circles_on : {Edge : ℕ → ℕ → Type 0} {p q r : ℕ} → Circles Edge p q → Circles Edge q r → Circles Edge p r
circles_on a b = record { via = a.via; edge = a.edge; rest = joined a.rest (along b.edge b.rest) }

abbrev Turned : (Edge : ℕ → ℕ → Type 0) → Type 0
Turned Edge = (p : ℕ) × TurnsBack Edge p

-- an edge from a path to itself goes up, or turns back
climb : {Edge : ℕ → ℕ → Type 0} {x y : ℕ} → Edge x y → Reaches Edge y x → (x < y) ⊎ Turned Edge
climb {x = x} {y = y} e back =
    elim (cases_lt x y) [ inl up ↦ inl up | inr b ↦ inr (x, record { to = y; edge = e; back = b; returns = back }) ]

higher : {Edge : ℕ → ℕ → Type 0} (x y z : ℕ) → (x < y) ⊎ Turned Edge → (y < z) ⊎ Turned Edge → (x < z) ⊎ Turned Edge
higher x y z (inr t) b = inr t
higher x y z (inl up) (inr t) = inr t
higher x y z (inl up) (inl more) = inl (omega arith)

-- a path goes up, or has an edge that turns back, if its end leads back to its start
pub climbs : {Edge : ℕ → ℕ → Type 0} {x y z : ℕ} → Edge x y → Reaches Edge y z → Reaches Edge z x → (x < z) ⊎ Turned Edge
climbs e here back = climb e back
climbs e (along f l) back = higher _ _ _ (climb e (joined (along f l) back)) (climbs f l (one_more back e))

-- a slot that leads to itself gives an edge that turns back
pub turned : {Edge : ℕ → ℕ → Type 0} (p : ℕ) → Circles Edge p p → Turned Edge
turned p c = elim (climbs c.edge c.rest here) [ inl up ↦ absurd (omega arith) | inr t ↦ t ]

-- a slot of the list leads to q
abbrev pub HasPred : (Edge : ℕ → ℕ → Type 0) → List ℕ → ℕ → Type 0
HasPred Edge xs q = (p : ℕ) × OneOf xs p × Circles Edge p q

-- a predecessor in x ∷ xs other than x, if one in xs leads to x
without : {Edge : ℕ → ℕ → Type 0} (x : ℕ) (xs : List ℕ) → HasPred Edge xs x → (q : ℕ) → HasPred Edge (x ∷ xs) q → HasPred Edge xs q
without {Edge = Edge} x xs u q w =
    elim w.1 [ inl same ↦ (u.0, u.1, circles_on u.2 (subst (λ (p : ℕ). Circles Edge p q) same w.2)) | inr in' ↦ (w.0, in', w.2) ]

-- in a list in which each slot has a predecessor, a slot leads to itself
pub stuck : {Edge : ℕ → ℕ → Type 0} (x : ℕ) (xs : List ℕ) → ((q : ℕ) → OneOf (x ∷ xs) q → HasPred Edge (x ∷ xs) q) → (p : ℕ) × Circles Edge p p
stuck {Edge = Edge} x [] all =
    let u = all x (inl refl) in
    elim u.1 [ inl same ↦ (x, subst (λ (p : ℕ). Circles Edge p x) same u.2) | inr none ↦ absurd none ]
stuck {Edge = Edge} x (y ∷ ys) all =
    let u = all x (inl refl) in
    elim u.1 [
      | inl same ↦ (x, subst (λ (p : ℕ). Circles Edge p x) same u.2)
      | inr in' ↦ stuck y ys (λ q at. without x (y ∷ ys) (u.0, in', u.2) q (all q (inr at)))
    ]
