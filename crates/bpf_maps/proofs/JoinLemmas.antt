-- Joins, splits and looks keep the rule.
use Rattle.std.proofs.Common.{◌≡◌, ◌≢◌, ℕ, ◌+◌, ◌≤◌, eqb, cond, List, [], ◌∷◌, ◌++◌, All, sum_by, set, get_or, sym, refl, subst, ⊎_elim, arith}
use mathlib.Core.Option.{some, none}
use lib.ListN.{get_elem?}
use lib.Seq.{set-get_or}
use Rattle.std.proofs.lemmas.List.Elements.{All-nil, All-cons, All-head, All-tail, All-append, All-weaker}
use Rattle.std.proofs.lemmas.List.Sums.{sum_by-append, sum_by-cons}
use Rattle.atomic_table.specs.Table.{State, step, keeps, stepped, Allows, Splits, Joins}
use Rattle.atomic_table.proofs.Lists.{at_set, at_snoc, set_again}
use Rattle.bpf_maps.specs.declared.view.Part.{Part}
use Rattle.bpf_maps.specs.declared.view.View.{View}
use Rattle.bpf_note.specs.Shape.{Shape}
use Rattle.bpf_note.specs.History.{Made, share}
use Rattle.bpf_maps.specs.Beginning.{IsLegalFrom, began}
use Rattle.bpf_maps.specs.Rule.{AreShares, Kept, Fits, Sat, view, times, looked, first_of, rest_of}
use Rattle.bpf_maps.proofs.ViewLemmas.{count, total_set, total_above}
use Rattle.bpf_maps.proofs.StepLemmas.{one_at_most}

abbrev St : Type 0
St = State (Unit {0}) View

first_fits : (P : Part → Type 0) (ps : List Part) → All P ps → All P (first_of ps)
first_fits P [] all = all
first_fits P (p ∷ ps) all = All-cons P p [] (All-head P p ps all) (All-nil P)

rest_fits : (P : Part → Type 0) (ps : List Part) → All P ps → All P (rest_of ps)
rest_fits P [] all = all
rest_fits P (p ∷ ps) all = All-tail P p ps all

times_parted : (q : ℕ) (ps : List Part) → times q (rest_of ps) + times q (first_of ps) ≡ times q ps
times_parted q [] = refl
times_parted q (p ∷ ps) =
    let f : Part → ℕ = λ x. cond (eqb q x.number) 1 0 in
    let a : times q (p ∷ ps) ≡ f p + times q ps = sum_by-cons f p ps in
    let b : times q (p ∷ []) ≡ f p + times q [] = sum_by-cons f p [] in
    let z : times q [] ≡ 0 = refl in omega arith

module _ (shapes : List Shape) (begin : List ℕ) (seats : ℕ) where
  abbrev Rule : St → Type 0
  Rule = Kept shapes begin seats

  pub splits : (id : ℕ) (v : View) → Splits Rule id v (view v.shapes v.begin (rest_of v.parts)) (view v.shapes v.begin (first_of v.parts))
  splits id v s r at =
      let left : View = view v.shapes v.begin (rest_of v.parts) in
      let right : View = view v.shapes v.begin (first_of v.parts) in
      let vs : List View = set s.views id left in
      let mine = r.shared id v at in
      record {
        history = r.history;
        wide = r.wide;
        spare = r.spare;
        legal = r.legal;
        leaves = r.leaves;
        shared = λ j u e. ⊎_elim
            (λ (old : get_elem? vs j ≡ some u). ⊎_elim
            (λ (t : (j ≡ id) × (left ≡ u)). subst (Fits shapes begin r.history) t.1 (rest_fits (λ (p : Part). (v.shapes ≡ shapes) × (v.begin ≡ begin) × (share p.number r.history ≡ p.ops)) v.parts mine))
            (λ (t : (j ≢ id) × (get_elem? s.views j ≡ some u)). r.shared j u t.1)
            (at_set s.views id j left u old))
            (λ (new : right ≡ u). subst (Fits shapes begin r.history) new (first_fits (λ (p : Part). (v.shapes ≡ shapes) × (v.begin ≡ begin) × (share p.number r.history ≡ p.ops)) v.parts mine))
            (at_snoc vs right u j e);
        once = λ x.
            let one = r.once x in let t = total_set x s.views id v left at in let p = times_parted x v.parts in
            let more : sum_by (count x) (vs ++ right ∷ []) ≡ sum_by (count x) vs + count x right = omega (arith, sum_by-append (count x) vs (right ∷ [])) in omega arith;
        no_others = r.no_others;
      }

  pub joins : (id : ℕ) (v : View) (other : ℕ) (w : View) → w.shapes ≡ v.shapes → w.begin ≡ v.begin → Joins Rule id v other w (view v.shapes v.begin (w.parts ++ v.parts)) (view [] [] [])
  joins id v other w same same_begin s r at apart there =
      let both : View = view v.shapes v.begin (w.parts ++ v.parts) in
      let spent : View = view [] [] [] in
      let vs : List View = set s.views id both in
      let was : get_elem? s.views other ≡ some w = ⊎_elim (λ (t : (other ≡ id) × (both ≡ w)). absurd (apart t.0)) (λ (t : (other ≢ id) × (get_elem? s.views other ≡ some w)). t.1) (at_set s.views id other both w there) in
      let P : List Shape → List ℕ → Part → Type 0 = λ own first p. (own ≡ shapes) × (first ≡ begin) × (share p.number r.history ≡ p.ops) in
      let theirs : All (P v.shapes v.begin) w.parts = subst (λ (l : List Shape × List ℕ). All (P l.0 l.1) w.parts) (λ i. (same i, same_begin i)) (r.shared other w was) in
      record {
        history = r.history;
        wide = r.wide;
        spare = r.spare;
        legal = r.legal;
        leaves = r.leaves;
        shared = λ j u e. ⊎_elim
            (λ (t : (j ≡ other) × (spent ≡ u)). subst (Fits shapes begin r.history) t.1 (All-nil (P [] [])))
            (λ (t : (j ≢ other) × (get_elem? vs j ≡ some u)). ⊎_elim
            (λ (t : (j ≡ id) × (both ≡ u)). subst (Fits shapes begin r.history) t.1 (All-append (P v.shapes v.begin) w.parts v.parts theirs (r.shared id v at)))
            (λ (t : (j ≢ id) × (get_elem? s.views j ≡ some u)). r.shared j u t.1)
            (at_set s.views id j both u t.1))
            (at_set vs other j spent u e);
        once = λ x.
            let one = r.once x in let t = total_set x s.views id v both at in let u = total_set x vs other w spent there in
            let p : count x both ≡ count x w + count x v = sum_by-append (λ (y : Part). cond (eqb x y.number) 1 0) w.parts v.parts in
            let z : count x spent ≡ 0 = refl in omega arith;
        no_others = r.no_others;
      }

  -- a step that changes no word and no view
  unmoved : (s : St) (r : Rule s) (i id : ℕ) (cs : List (ℕ × Unit {0})) (v : View) → get_elem? s.views id ≡ some v → Rule (stepped s i (get_or s.words i 0) id cs v keeps)
  unmoved s r i id cs v at = subst (λ (z : List ℕ × List View). Rule record { words = z.0; homes = s.homes; views = z.1 }) (λ k. (sym (set-get_or s.words i 0) k, sym (set_again s.views id v at) k)) r

  -- the parts of a view are shares of one legal history from the beginning that it has
  seen : (v : View) (h : List Made) → IsLegalFrom (began shapes begin) h → (ps : List Part) → All (λ (p : Part). (v.shapes ≡ shapes) × (v.begin ≡ begin) × (share p.number h ≡ p.ops)) ps
      → ((x : ℕ) → times x ps ≤ 1) → AreShares v.shapes v.begin ps
  seen v h legal [] all once = ([], (λ i e at. absurd (cc)), All-nil (λ (p : Part). share p.number [] ≡ p.ops), once)
  seen v h legal (p ∷ ps) all once =
      let P : Part → Type 0 = λ p. (v.shapes ≡ shapes) × (v.begin ≡ begin) × (share p.number h ≡ p.ops) in
      let own = All-head P p ps all in (
        h,
        subst (λ (z : List Shape × List ℕ). IsLegalFrom (began z.0 z.1) h) (λ i. (sym own.0 i, sym own.1 i)) legal,
        All-weaker P (λ (p : Part). share p.number h ≡ p.ops) (λ p t. t.2) (p ∷ ps) all,
        once,
      )

  pub looks : (slots id word : ℕ) (me : Sat) → Allows Rule slots id me word (λ n. n) (looked (step slots word 0 0 none) me)
  looks slots id word me s r _ at _ = (
    me.0,
    keeps,
    tt,
    unmoved s r word id me.1 me.0 at,
    (
      refl,
      seen me.0 r.history r.legal me.0.parts (r.shared id me.0 at)
          (λ x. let above = total_above x s.views id me.0 at in let one = r.once x in let most = one_at_most x seats in omega arith),
    ),
  )
