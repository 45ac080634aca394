-- Counts of edges from live slots.
use Rattle.std.proofs.Common.{◌≡◌, ◌≢◌, ◌<◌, ◌≤◌, ◌+◌, ◌*◌, ℕ, zero, suc, List, arith, sym, ◌∙◌, refl, subst, ap, inl, inr, Option, Some, None, Bool, true, false, add-one}
use Rattle.std.specs.Prelude.{◌⊎◌, ◌==◌, if◌then◌else◌}
use Rattle.std.proofs.lemmas.Bool.{cases_lt}
use Rattle.std.proofs.lemmas.Bool.Decides.{nat_tests}
use Rattle.bpf_insn.specs.declared.insn.Insn.{Insn}
use Rattle.bpf_verify.specs.Ways.{fall_to, jump_to}
use Rattle.bpf_verify.specs.Edges.{Edge}
use Rattle.bpf_verify.proofs.WayLemmas.{IsWay, edge_way, way_edge}
use Rattle.bpf_verify.specs.Waits.{one, hits, into}

one_by : (b : Bool) → (if b then 1 else 0) ≤ 1
one_by true = omega arith
one_by false = omega arith

pub one_small : (o : Option ℕ) (q : ℕ) → one o q ≤ 1
one_small None q = omega arith
one_small (Some t) q = one_by (t == q)

one_is_by : (b : Bool) (t q : ℕ) → b ≡ (t == q) → t ≡ q → 0 < (if b then 1 else 0)
one_is_by true t q e same = omega arith
one_is_by false t q e same = grind (arith, nat_tests)

one_is : (o : Option ℕ) (q : ℕ) → o ≡ Some q → 0 < one o q
one_is None q e = cc
one_is (Some t) q e = let same : t ≡ q = cc in one_is_by (t == q) t q refl same

one_some_by : (b : Bool) (t q : ℕ) → b ≡ (t == q) → 0 < (if b then 1 else 0) → t ≡ q
one_some_by true t q e low = grind (arith, nat_tests)
one_some_by false t q e low = absurd (omega arith)

one_some : (o : Option ℕ) (q : ℕ) → 0 < one o q → o ≡ Some q
one_some None q low = absurd (omega arith)
one_some (Some t) q low = ap Some (one_some_by (t == q) t q refl low)

pub hits_small : (code : List Insn) (p q : ℕ) → hits code p q ≤ 2
unfolding hits
hits_small code p q = omega (arith, one_small (fall_to code p) q, one_small (jump_to code p) q)

pub hits_parts : (code : List Insn) (p q : ℕ) → hits code p q ≡ one (fall_to code p) q + one (jump_to code p) q
unfolding hits
hits_parts code p q = refl

way_hits : (code : List Insn) (p q : ℕ) → IsWay code p q → 0 < hits code p q
unfolding hits
way_hits code p q (inl e) = omega (arith, one_is (fall_to code p) q e)
way_hits code p q (inr e) = omega (arith, one_is (jump_to code p) q e)

pub edge_hits : (code : List Insn) (p q : ℕ) → Edge code p q → 0 < hits code p q
edge_hits code p q e = way_hits code p q (edge_way code p q e)

either : (a b : ℕ) → 0 < a + b → (0 < a) ⊎ (0 < b)
either a b low = elim (cases_lt 0 a) [ inl l ↦ inl l | inr h ↦ inr (omega arith) ]

pub hits_way : (code : List Insn) (p q : ℕ) → 0 < hits code p q → IsWay code p q
unfolding hits
hits_way code p q low = elim (either _ _ low) [ inl l ↦ inl (one_some (fall_to code p) q l) | inr l ↦ inr (one_some (jump_to code p) q l) ]

-- what slot k adds
pub part : List Insn → Bool → ℕ → ℕ → ℕ
part code b k q = if b then hits code k q else 0

pub into_more : (code : List Insn) (live : ℕ → Bool) (k q : ℕ) → into code live (suc k) q ≡ into code live k q + part code (live k) k q
unfolding part
into_more code live k q = refl

part_yes : (code : List Insn) (b : Bool) (k q : ℕ) → b ≡ true → part code b k q ≡ hits code k q
unfolding part
part_yes code true k q e = refl
part_yes code false k q e = cc

part_no : (code : List Insn) (b : Bool) (k q : ℕ) → b ≡ false → part code b k q ≡ 0
unfolding part
part_no code false k q e = refl
part_no code true k q e = cc

part_some : (code : List Insn) (b : Bool) (k q : ℕ) → 0 < part code b k q → (b ≡ true) × Edge code k q
unfolding part
part_some code true k q low = (refl, way_edge code k q (hits_way code k q low))
part_some code false k q low = absurd (omega arith)

part_small : (code : List Insn) (b : Bool) (k q : ℕ) → part code b k q ≤ 2
unfolding part
part_small code true k q = hits_small code k q
part_small code false k q = omega arith

pub more_live : (code : List Insn) (live : ℕ → Bool) (k q : ℕ) → live k ≡ true → into code live (k + 1) q ≡ into code live k q + hits code k q
more_live code live k q e = rw add-one (into_more code live k q ∙ ap (λ (n : ℕ). into code live k q + n) (part_yes code (live k) k q e))

pub more_dead : (code : List Insn) (live : ℕ → Bool) (k q : ℕ) → live k ≡ false → into code live (k + 1) q ≡ into code live k q
more_dead code live k q e = let nothing = part_no code (live k) k q e in rw add-one (omega (arith, into_more code live k q, nothing))

pub into_small : (code : List Insn) (live : ℕ → Bool) (k q : ℕ) → into code live k q ≤ 2 * k
into_small code live zero q = omega arith
into_small code live (suc k) q = omega (arith, into_small code live k q, part_small code (live k) k q, into_more code live k q)

-- a slot to which edges lead from live slots has a live predecessor
pub into_some : (code : List Insn) (live : ℕ → Bool) (k q : ℕ) → 0 < into code live k q → (p : ℕ) × (p < k) × (live p ≡ true) × Edge code p q
into_some code live zero q low = absurd (omega arith)
into_some code live (suc k) q low =
    elim (either (into code live k q) (part code (live k) k q) (omega (arith, into_more code live k q))) [
      | inl l ↦ let r = into_some code live k q l in (r.0, omega (arith, r.1), r.2, r.3)
      | inr l ↦ let r = part_some code (live k) k q l in (k, omega arith, r.0, r.1)
    ]

pub into_none : (code : List Insn) (live : ℕ → Bool) (k q : ℕ) → ((p : ℕ) → live p ≡ true → Edge code p q → ⊥) → into code live k q ≡ 0
into_none code live k q none =
    elim (cases_lt 0 (into code live k q)) [ inl low ↦ let r = into_some code live k q low in absurd (none r.0 r.2 r.3) | inr z ↦ omega arith ]

pub into_edge : (code : List Insn) (live : ℕ → Bool) (k p q : ℕ) → p < k → live p ≡ true → hits code p q ≤ into code live k q
into_edge code live zero p q low is = absurd (omega arith)
into_edge code live (suc k) p q low is =
    elim (cases_lt p k) [
      | inl l ↦ omega (arith, into_edge code live k p q l is, into_more code live k q)
      | inr h ↦ let same : k ≡ p = omega arith in
          subst (λ (r : ℕ). hits code r q ≤ into code live (suc k) q) same (omega (arith, into_more code live k q, part_yes code (live k) k q (ap live same ∙ is)))
    ]

-- live and live' differ at p alone
into_same : (code : List Insn) (live live' : ℕ → Bool) (p k q : ℕ) → ((r : ℕ) → r ≢ p → live' r ≡ live r) → k ≤ p → into code live' k q ≡ into code live k q
into_same code live live' p zero q others h = refl
into_same code live live' p (suc k) q others h =
    let rest = into_same code live live' p k q others (omega arith) in
    let here : part code (live' k) k q ≡ part code (live k) k q = ap (λ (b : Bool). part code b k q) (others k (omega arith)) in
    omega (arith, rest, here, into_more code live k q, into_more code live' k q)

pub into_taken : (code : List Insn) (live live' : ℕ → Bool) (p k q : ℕ) → ((r : ℕ) → r ≢ p → live' r ≡ live r) → live p ≡ true → live' p ≡ false → p < k → into code live' k q + hits code p q ≡ into code live k q
into_taken code live live' p zero q others is not low = absurd (omega arith)
into_taken code live live' p (suc k) q others is not low =
    elim (cases_lt p k) [
      | inl l ↦
          let rest = into_taken code live live' p k q others is not l in
          let here : part code (live' k) k q ≡ part code (live k) k q = ap (λ (b : Bool). part code b k q) (others k (omega arith)) in
          omega (arith, rest, here, into_more code live k q, into_more code live' k q)
      | inr h ↦
          let same : p ≡ k = omega arith in
          let rest = into_same code live live' p k q others (omega arith) in
          let gone = part_no code (live' k) k q (ap live' (sym same) ∙ not) in
          let was = part_yes code (live k) k q (ap live (sym same) ∙ is) in
          let at : hits code p q ≡ hits code k q = ap (λ (r : ℕ). hits code r q) same in
          omega (arith, rest, gone, was, at, into_more code live k q, into_more code live' k q)
    ]
