-- A load and an add of a counter keep the rule.
use Rattle.std.proofs.Common.{◌≡◌, ◌≢◌, ℕ, ◌+◌, ◌%◌, ◌^◌, ◌<◌, ◌≤◌, ltb, cond, List, [], ◌∷◌, ◌++◌, All, length, set, get_or, sym, refl, ap, ◌∙◌, subst, ⊎_elim, arith, length-set, get_or-set_other, get_or-set_same}
use mathlib.Core.Logic.{dite}
use mathlib.Core.Option.{some, none}
use native.Mathlib.Decide.{ℕ_discrete}
use lib.ListN.{get_elem?}
use Rattle.std.proofs.lemmas.List.Elements.{All-nil, All-cons, All-head, All-tail, All-push}
use Rattle.std.proofs.lemmas.Bool.Decides.{nat_tests}
use Rattle.atomic_table.specs.Table.{State, step, keeps, stepped, Allows}
use Rattle.atomic_table.proofs.Lists.{at_set}
use Rattle.bpf_note.specs.declared.op.Op.{Op}
use Rattle.bpf_note.specs.declared.op.Op.TheVariants.{Load, Add}
use Rattle.bpf_maps.specs.declared.view.Part.{Part}
use Rattle.bpf_maps.specs.declared.view.View.{View}
use Rattle.bpf_note.specs.Shape.{Shape, IsCounter}
use Rattle.bpf_maps.specs.Layout.{total}
use Rattle.bpf_note.specs.History.{Made, found, map_of, value_of, counter_of, added, share}
use Rattle.bpf_maps.specs.Beginning.{began, left_from}
use Rattle.bpf_maps.specs.Rule.{Kept, Fits, Sat, part, view, times, word_of, grown, loaded, fetched}
use Rattle.bpf_maps.specs.Seats.{number_of, ops_of}
use Rattle.bpf_maps.proofs.GrowthLemmas.{single}
use Rattle.bpf_maps.proofs.HistoryLemmas.{legal_from, left_from_more, share_mine, share_other, both_same, left_from_same, adds_elsewhere, adds_here}
use Rattle.bpf_maps.proofs.PlaceLemmas.{word_within, one_place}
use Rattle.bpf_maps.proofs.ViewLemmas.{count, total_set, total_above, two_above, times_here, times_else}

abbrev St : Type 0
St = State (Unit {0}) View

abbrev IsShare : List Shape → List ℕ → View → List Made → Part → Type 0
IsShare shapes begin own h p = (own.shapes ≡ shapes) × (own.begin ≡ begin) × (share p.number h ≡ p.ops)

-- the shares of other numbers stay
others_stay : (shapes : List Shape) (begin : List ℕ) (own : View) (q : ℕ) (o : Op) (h : List Made) (ps : List Part) → times q ps ≡ 0 → All (IsShare shapes begin own h) ps → All (IsShare shapes begin own (h ++ (q, o) ∷ [])) ps
others_stay shapes begin own q o h [] zero_times all = All-nil (IsShare shapes begin own (h ++ (q, o) ∷ []))
others_stay shapes begin own q o h (p ∷ ps) zero_times all = dite (ℕ_discrete q p.number)
    (λ e. let t = times_here q p ps e in absurd (omega arith))
    (λ n. let t = times_else q p ps n in let here = All-head (IsShare shapes begin own h) p ps all in
    All-cons (IsShare shapes begin own (h ++ (q, o) ∷ [])) p ps (here.0, here.1, share_other q p.number h o (λ e. n (sym e)) ∙ here.2) (others_stay shapes begin own q o h ps (sym t ∙ zero_times) (All-tail (IsShare shapes begin own h) p ps all)))

pub one_at_most : (q seats : ℕ) → cond (ltb q seats) 1 0 ≤ 1
one_at_most q seats = grind (arith, nat_tests)

is_seat : (q seats : ℕ) → 1 ≤ cond (ltb q seats) 1 0 → q < seats
is_seat q seats h = grind (arith, nat_tests)

module _ (shapes : List Shape) (begin : List ℕ) (seats : ℕ) where
  abbrev Rule : St → Type 0
  Rule = Kept shapes begin seats

  -- one operation more, of the seat that stands at this word
  grows : (s : St) (r : Rule s) (id : ℕ) (cs : List (ℕ × Unit {0})) (q : ℕ) (ops : List Op) (o : Op) (n : ℕ) → get_elem? s.views id ≡ some (view shapes begin (part q ops ∷ []))
      → IsCounter shapes (map_of o) (value_of o) (counter_of o) → found o ≡ get_or s.words (word_of shapes (map_of o) (value_of o) (counter_of o)) 0
      → n ≡ (found o + added (map_of o) (value_of o) (counter_of o) o) % 2 ^ 64 → ((m k j : ℕ) → ¬ ((m ≡ map_of o) × (k ≡ value_of o) × (j ≡ counter_of o)) → added m k j o ≡ 0)
      → Rule (stepped s (word_of shapes (map_of o) (value_of o) (counter_of o)) n id cs (view shapes begin (part q (ops ++ o ∷ []) ∷ [])) keeps)
  grows s r id cs q ops o n at in_range is now elsewhere =
      let v : View = view shapes begin (part q ops ∷ []) in
      let w : View = view shapes begin (part q (ops ++ o ∷ []) ∷ []) in
      let more : List Made = r.history ++ (q, o) ∷ [] in
      let place : ℕ = word_of shapes (map_of o) (value_of o) (counter_of o) in
      let inside : place < 1 + total shapes = word_within shapes (map_of o) (value_of o) (counter_of o) in_range in
      let wide = r.wide in
      let old : found o ≡ left_from (began shapes begin) (map_of o) (value_of o) (counter_of o) r.history = is ∙ r.leaves (map_of o) (value_of o) (counter_of o) in_range in
      let mine : count q v ≡ 1 = times_here q (part q ops) [] refl in
      let my_share : share q r.history ≡ ops = (All-head (IsShare shapes begin v r.history) (part q ops) [] (r.shared id v at)).2 in
      record {
        history = more;
        wide = length-set s.words place n ∙ wide;
        spare = get_or-set_other s.words place 0 n 0 (λ e. omega arith) ∙ r.spare;
        legal = legal_from (began shapes begin) r.history q o r.legal old;
        leaves = λ m k j h. dite (both_same m k j (map_of o) (value_of o) (counter_of o))
            (λ (e : (m ≡ map_of o) × (k ≡ value_of o) × (j ≡ counter_of o)). subst (λ (z : ℕ × ℕ × ℕ). get_or (set s.words place n) (word_of shapes z.0 z.1 z.2) 0 ≡ left_from (began shapes begin) z.0 z.1 z.2 more) (λ i. (sym e.0 i, sym e.1 i, sym e.2 i))
            (get_or-set_same s.words place n 0 (omega arith) ∙ (now ∙ (ap (λ (x : ℕ). (x + added (map_of o) (value_of o) (counter_of o) o) % 18446744073709551616) old ∙ sym (left_from_more (began shapes begin) (map_of o) (value_of o) (counter_of o) r.history q o)))))
            (λ apart. let none_here = elsewhere m k j apart in
            let other : word_of shapes m k j ≢ place = λ e. apart (one_place shapes m k j (map_of o) (value_of o) (counter_of o) h in_range e) in
            get_or-set_other s.words place (word_of shapes m k j) n 0 other ∙ (r.leaves m k j h ∙ sym (left_from_more (began shapes begin) m k j r.history q o ∙ left_from_same (began shapes begin) m k j r.history (added m k j o) none_here)));
        shared = λ j u e. ⊎_elim
            (λ (t : (j ≡ id) × (w ≡ u)). subst (Fits shapes begin more) t.1
            (All-cons (IsShare shapes begin w more) (part q (ops ++ o ∷ [])) [] (refl, refl, share_mine q r.history o ∙ ap (λ (l : List Op). l ++ o ∷ []) my_share) (All-nil (IsShare shapes begin w more))))
            (λ (t : (j ≢ id) × (get_elem? s.views j ≡ some u)). let k = r.shared j u t.1 in
            let both = two_above q s.views id j v u (λ x. t.0 (sym x)) at t.1 in let one = r.once q in let most = one_at_most q seats in
            others_stay shapes begin u q o r.history u.parts (omega arith) k)
            (at_set s.views id j w u e);
        once = λ x. let t = total_set x s.views id v w at in let one = r.once x in let same : count x v ≡ count x w = refl in omega arith;
        no_others = All-push (λ (e : Made). e.0 < seats) r.history (q, o) r.no_others
            (is_seat q seats (let above = total_above q s.views id v at in let one = r.once q in omega arith));
      }

  own_of : (v : View) (q : ℕ) (ops : List Op) (h : List Made) → v.parts ≡ part q ops ∷ [] → Fits shapes begin h v → (v.shapes ≡ shapes) × (v.begin ≡ begin)
  own_of v q ops h e all = let known = All-head (IsShare shapes begin v h) (part q ops) [] (subst (λ (ps : List Part). All (IsShare shapes begin v h) ps) e all) in (known.0, known.1)

  -- the seat's list has the operation at its end, wherever the word is a counter's
  tells : (me : Sat) (m k j q : ℕ) (ops : List Op) (op : ℕ → ℕ → ℕ → Op) → me.0 ≡ view shapes begin (part q ops ∷ []) → IsCounter shapes m k j → (m' k' j' : ℕ) → IsCounter me.0.shapes m' k' j'
      → word_of shapes m k j ≡ word_of me.0.shapes m' k' j' → view shapes begin (part q (ops ++ op m k j ∷ []) ∷ []) ≡ grown me.0 (op m' k' j')
  tells me m k j q ops op is in_range m' k' j' h e =
      let sz : me.0.shapes ≡ shapes = ap (λ (v : View). v.shapes) is in
      let h' : IsCounter shapes m' k' j' = subst (λ (l : List Shape). IsCounter l m' k' j') sz h in
      let t = one_place shapes m k j m' k' j' in_range h' (e ∙ ap (λ (l : List Shape). word_of l m' k' j') sz) in
      sym (ap (λ (v : View). grown v (op m k j)) is) ∙ (λ i. grown me.0 (op (t.0 i) (t.1 i) (t.2 i)))

  pub loads : (slots id : ℕ) (me : Sat) (m k j q : ℕ) (ops : List Op) → me.0.parts ≡ part q ops ∷ [] → IsCounter shapes m k j
      → Allows Rule slots id me (word_of shapes m k j) (λ n. n) (loaded (step slots (word_of shapes m k j) 0 0 none) me)
  loads slots id me m k j q ops mine in_range s r _ at small =
      let x : ℕ = get_or s.words (word_of shapes m k j) 0 in
      let own = own_of me.0 q ops r.history mine (r.shared id me.0 at) in
      let is : me.0 ≡ view shapes begin (part q ops ∷ []) = λ i. view (own.0 i) (own.1 i) (mine i) in
      let fits : x < 18446744073709551616 = small in (
        view shapes begin (part q (ops ++ Load m k j x ∷ []) ∷ []),
        keeps,
        tt,
        grows s r id me.1 q ops (Load m k j x) x (at ∙ ap some is) in_range refl (omega arith) (λ _ _ _ _. refl),
        (refl, tells me m k j q ops (λ a b c. Load a b c x) is in_range),
      )

  pub adds : (slots id : ℕ) (me : Sat) (m k j q : ℕ) (ops : List Op) (delta : ℕ) → me.0.parts ≡ part q ops ∷ [] → IsCounter shapes m k j
      → Allows Rule slots id me (word_of shapes m k j) (λ n. (n + delta) % 2 ^ 64) (fetched (step slots (word_of shapes m k j) delta 0 none) me)
  adds slots id me m k j q ops delta mine in_range s r _ at small =
      let x : ℕ = get_or s.words (word_of shapes m k j) 0 in
      let own = own_of me.0 q ops r.history mine (r.shared id me.0 at) in
      let is : me.0 ≡ view shapes begin (part q ops ∷ []) = λ i. view (own.0 i) (own.1 i) (mine i) in
      let here = adds_here m k j delta x in (
        view shapes begin (part q (ops ++ Add m k j delta x ∷ []) ∷ []),
        keeps,
        tt,
        grows s r id me.1 q ops (Add m k j delta x) ((x + delta) % 18446744073709551616) (at ∙ ap some is) in_range refl
            (ap (λ (d : ℕ). (x + d) % 18446744073709551616) (sym here)) (λ m' k' j' apart. adds_elsewhere m' k' j' m k j delta x apart),
        (refl, tells me m k j q ops (λ a b c. Add a b c delta x) is in_range),
      )

-- the same at a word and a key that are known by equations
pub loads_at : (key shapes : List Shape) (begin : List ℕ) (seats slots id word : ℕ) (me : Sat) (m k j : ℕ) → key ≡ shapes → word ≡ word_of shapes m k j → length me.0.parts ≡ 1 → IsCounter shapes m k j
    → Allows (Kept key begin seats) slots id me word (λ n. n) (loaded (step slots word 0 0 none) me)
loads_at key shapes begin seats slots id word me m k j same at one h =
    subst (λ (l : List Shape). Allows (Kept l begin seats) slots id me word (λ n. n) (loaded (step slots word 0 0 none) me)) (sym same)
    (subst (λ (w : ℕ). Allows (Kept shapes begin seats) slots id me w (λ n. n) (loaded (step slots w 0 0 none) me)) (sym at)
    (loads shapes begin seats slots id me m k j (number_of me.0.parts) (ops_of me.0.parts) (single me.0.parts one) h))

pub adds_at : (key shapes : List Shape) (begin : List ℕ) (seats slots id word : ℕ) (me : Sat) (m k j delta : ℕ) → key ≡ shapes → word ≡ word_of shapes m k j → length me.0.parts ≡ 1 → IsCounter shapes m k j
    → Allows (Kept key begin seats) slots id me word (λ n. (n + delta) % 2 ^ 64) (fetched (step slots word delta 0 none) me)
adds_at key shapes begin seats slots id word me m k j delta same at one h =
    subst (λ (l : List Shape). Allows (Kept l begin seats) slots id me word (λ n. (n + delta) % 18446744073709551616) (fetched (step slots word delta 0 none) me)) (sym same)
    (subst (λ (w : ℕ). Allows (Kept shapes begin seats) slots id me w (λ n. (n + delta) % 18446744073709551616) (fetched (step slots w delta 0 none) me)) (sym at)
    (adds shapes begin seats slots id me m k j (number_of me.0.parts) (ops_of me.0.parts) delta (single me.0.parts one) h))
