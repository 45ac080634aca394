-- What is known when every seat has come back.
use Rattle.std.proofs.Common.{◌≡◌, ◌≢◌, ℕ, zero, suc, ◌+◌, ◌*◌, ◌%◌, ◌^◌, ◌<◌, ◌≤◌, eqb, Bool, cond, List, [], ◌∷◌, ◌++◌, All, Contains, map, filter, append_assoc, Some, eq-eqb, ne_eqb, length, sum_by, get_or, sym, refl, ap, ◌∙◌, subst, arith}
use mathlib.Core.Logic.{dite}
use mathlib.Core.Option.{some, some-injective, some-ne-none}
use native.Mathlib.Decide.{ℕ_discrete}
use lib.ListN.{get_elem?}
use Rattle.std.proofs.lemmas.List.Elements.{All-nil, All-cons, All-head, All-tail, All-pop, All-weaker}
use Rattle.std.proofs.lemmas.List.{map-append}
use Rattle.std.proofs.lemmas.List.Sums.{sum_by-cons}
use Rattle.atomic_table.specs.Table.{State, Seen}
use Rattle.bpf_note.specs.declared.op.Op.{Op}
use Rattle.bpf_maps.specs.declared.view.Part.{Part}
use Rattle.bpf_maps.specs.declared.view.View.{View}
use Rattle.bpf_note.specs.Shape.{Shape, IsCounter}
use Rattle.bpf_maps.specs.Layout.{place_of, total}
use Rattle.bpf_note.specs.History.{Made, added, share}
use Rattle.bpf_maps.specs.Beginning.{began, left_from}
use Rattle.bpf_maps.specs.Rule.{Kept, part, times, word_of}
use Rattle.bpf_maps.specs.Seats.{SeatView, TotalsView, Account, total_at}
use Rattle.bpf_maps.proofs.PlaceLemmas.{place_within}
use Rattle.bpf_maps.proofs.StepLemmas.{one_at_most}
use Rattle.bpf_maps.proofs.ViewLemmas.{count, total_above, times_here, times_else}

abbrev pub part_of : SeatView → Part
part_of s = part s.number s.ops

-- one operation more at the front of a history adds to the list of each part with its number
one_more : (f : Op → ℕ) (e : Made) (es : List Made) (ps : List Part)
    → sum_by (λ (p : Part). sum_by f (share p.number (e ∷ es))) ps ≡ times e.0 ps * f e.1 + sum_by (λ (p : Part). sum_by f (share p.number es)) ps
one_more f e es [] = let z : 0 ≡ 0 * f e.1 + 0 = omega arith in z
one_more f e es (p ∷ ps) =
    let F : Part → ℕ = λ q. sum_by f (share q.number (e ∷ es)) in
    let G : Part → ℕ = λ q. sum_by f (share q.number es) in
    let r : sum_by F ps ≡ times e.0 ps * f e.1 + sum_by G ps = one_more f e es ps in
    let a : sum_by F (p ∷ ps) ≡ F p + sum_by F ps = sum_by-cons F p ps in
    let b : sum_by G (p ∷ ps) ≡ G p + sum_by G ps = sum_by-cons G p ps in
    dite (ℕ_discrete p.number e.0)
    (λ same.
    let t : times e.0 (p ∷ ps) ≡ 1 + times e.0 ps = times_here e.0 p ps (sym same) in
    let now : share p.number (e ∷ es) ≡ e.1 ∷ share p.number es = here p same in
    let more : F p ≡ f e.1 + G p = ap (sum_by f) now ∙ sum_by-cons f e.1 (share p.number es) in
    let u : times e.0 (p ∷ ps) * f e.1 ≡ (1 + times e.0 ps) * f e.1 = ap (λ (n : ℕ). n * f e.1) t in omega arith)
    (λ apart.
    let t : times e.0 (p ∷ ps) ≡ times e.0 ps = times_else e.0 p ps (λ x. apart (sym x)) in
    let now : share p.number (e ∷ es) ≡ share p.number es = there p apart in
    let more : F p ≡ G p = ap (sum_by f) now in
    let u : times e.0 (p ∷ ps) * f e.1 ≡ times e.0 ps * f e.1 = ap (λ (n : ℕ). n * f e.1) t in omega arith)
  where
    here : (p : Part) → p.number ≡ e.0 → share p.number (e ∷ es) ≡ e.1 ∷ share p.number es
    here p same = ap (λ (b : Bool). map (λ (x : Made). x.1) (cond b (e ∷ filter (λ (x : Made). eqb p.number x.0) es) (filter (λ (x : Made). eqb p.number x.0) es))) (eq-eqb p.number e.0 same)

    there : (p : Part) → p.number ≢ e.0 → share p.number (e ∷ es) ≡ share p.number es
    there p apart = ap (λ (b : Bool). map (λ (x : Made). x.1) (cond b (e ∷ filter (λ (x : Made). eqb p.number x.0) es) (filter (λ (x : Made). eqb p.number x.0) es))) (ne_eqb p.number e.0 apart)

no_sum : (ps : List Part) (F : Part → ℕ) → ((p : Part) → F p ≡ 0) → sum_by F ps ≡ 0
no_sum [] F z = refl
no_sum (p ∷ ps) F z = let a = sum_by-cons F p ps in let b = z p in let r = no_sum ps F z in omega arith

-- where each entry's number stands once, the sum over the shares is the sum over the history
parts_sum : (f : Op → ℕ) (h : List Made) (ps : List Part) → All (λ (e : Made). times e.0 ps ≡ 1) h → sum_by (λ (p : Part). sum_by f (share p.number h)) ps ≡ sum_by (λ (e : Made). f e.1) h
parts_sum f [] ps once = no_sum ps (λ (p : Part). sum_by f (share p.number [])) (λ p. refl)
parts_sum f (e ∷ es) ps once =
    let P : Made → Type 0 = λ x. times x.0 ps ≡ 1 in
    let one : times e.0 ps ≡ 1 = All-head P e es once in
    let r = parts_sum f es ps (All-tail P e es once) in
    let a = one_more f e es ps in
    let b : sum_by (λ (x : Made). f x.1) (e ∷ es) ≡ f e.1 + sum_by (λ (x : Made). f x.1) es = sum_by-cons (λ (x : Made). f x.1) e es in
    let c : times e.0 ps * f e.1 ≡ 1 * f e.1 = ap (λ (n : ℕ). n * f e.1) one in omega arith

shares_sum : (f : Op → ℕ) (h : List Made) (seats : List SeatView) → All (λ (s : SeatView). share s.number h ≡ s.ops) seats
    → sum_by (λ (p : Part). sum_by f (share p.number h)) (map part_of seats) ≡ sum_by (λ (s : SeatView). sum_by f s.ops) seats
shares_sum f h [] all = refl
shares_sum f h (s ∷ ss) all =
    let P : SeatView → Type 0 = λ x. share x.number h ≡ x.ops in
    let F : Part → ℕ = λ p. sum_by f (share p.number h) in
    let G : SeatView → ℕ = λ x. sum_by f x.ops in
    let r : sum_by F (map part_of ss) ≡ sum_by G ss = shares_sum f h ss (All-tail P s ss all) in
    let a : sum_by F (map part_of (s ∷ ss)) ≡ F (part_of s) + sum_by F (map part_of ss) = sum_by-cons F (part_of s) (map part_of ss) in
    let b : sum_by G (s ∷ ss) ≡ G s + sum_by G ss = sum_by-cons G s ss in
    let same : F (part_of s) ≡ G s = ap (sum_by f) (All-head P s ss all) in omega arith

unmapped : (P : Part → Type 0) (seats : List SeatView) → All P (map part_of seats) → All (λ (s : SeatView). P (part_of s)) seats
unmapped P [] all = All-nil (λ (s : SeatView). P (part_of s))
unmapped P (s ∷ ss) all = All-cons (λ (x : SeatView). P (part_of x)) s ss (All-head P (part_of s) (map part_of ss) all) (unmapped P ss (All-tail P (part_of s) (map part_of ss) all))

above_one : (q : ℕ) (seats : List SeatView) (k : ℕ) → k < length (map (λ (s : SeatView). s.number) seats) → get_or (map (λ (s : SeatView). s.number) seats) k q ≡ q → 1 ≤ times q (map part_of seats)
above_one q [] k h e = absurd (omega arith)
above_one q (s ∷ ss) zero h e = let t = times_here q (part_of s) (map part_of ss) (sym e) in omega arith
above_one q (s ∷ ss) (suc k) h e = let r = above_one q ss k (omega arith) e in let a : times q (map part_of (s ∷ ss)) ≡ cond (eqb q s.number) 1 0 + times q (map part_of ss) = sum_by-cons (λ (p : Part). cond (eqb q p.number) 1 0) (part_of s) (map part_of ss) in omega arith

module _ (shapes : List Shape) (begin : List ℕ) (n : ℕ) (words : List ℕ) (id : ℕ) (v : View) (seats : List SeatView) (t : TotalsView) where
  pub accounts : v.parts ≡ map part_of seats → ((q : ℕ) → q < n → Contains (map (λ (s : SeatView). s.number) seats) q) → t.shapes ≡ shapes
      → ((i : ℕ) → i < total shapes → get_or t.values i 0 ≡ get_or words (i + 1) 0) → (s : State (Unit {0}) View) → Seen (Kept shapes begin n) id v s → s.words ≡ words
      → Account (began shapes begin) seats t × ((m k j : ℕ) → IsCounter shapes m k j → total_at t m k j ≡ (began shapes begin m k j + sum_by (λ (x : SeatView). sum_by (added m k j) x.ops) seats) % 2 ^ 64)
  accounts parts every same values s seen is =
      let r = seen.0 in
      let h = r.history in
      let fits = subst (λ (ps : List Part). All (λ (p : Part). (v.shapes ≡ shapes) × (v.begin ≡ begin) × (share p.number h ≡ p.ops)) ps) parts (r.shared id v seen.1) in
      let shares : All (λ (x : SeatView). share x.number h ≡ x.ops) seats = unmapped (λ (p : Part). share p.number h ≡ p.ops) seats
      (All-weaker (λ (p : Part). (v.shapes ≡ shapes) × (v.begin ≡ begin) × (share p.number h ≡ p.ops)) (λ (p : Part). share p.number h ≡ p.ops) (λ p z. z.2) (map part_of seats) fits) in
      let left : (m k j : ℕ) → IsCounter shapes m k j → total_at t m k j ≡ left_from (began shapes begin) m k j h = λ m k j inside.
      ap (λ (l : List Shape). get_or t.values (place_of l m k j) 0) same ∙ (values (place_of shapes m k j) (place_within shapes m k j inside)
      ∙ (ap (λ (l : List ℕ). get_or l (place_of shapes m k j + 1) 0) (sym is) ∙ (ap (λ (i : ℕ). get_or s.words i 0) (word_is m k j) ∙ r.leaves m k j inside))) in
      let once : All (λ (e : Made). times e.0 (map part_of seats) ≡ 1) h = All-weaker (λ (e : Made). e.0 < n) (λ (e : Made). times e.0 (map part_of seats) ≡ 1)
      (λ e below. exactly e.0 below s r parts every seen.1) h r.no_others in (
        record {
          history = h;
          legal = r.legal;
          shares = shares;
          no_others = All-weaker (λ (e : Made). e.0 < n) (λ (e : Made). Contains (map (λ (x : SeatView). x.number) seats) e.0) (λ e below. every e.0 below) h r.no_others;
          leaves = λ m k j inside. left m k j (subst (λ (l : List Shape). IsCounter l m k j) same inside);
        },
        λ m k j inside. left m k j inside ∙ ap (λ (x : ℕ). (began shapes begin m k j + x) % 18446744073709551616) (sym (parts_sum (added m k j) h (map part_of seats) once) ∙ shares_sum (added m k j) h seats shares),
      )
    where
      word_is : (m k j : ℕ) → place_of shapes m k j + 1 ≡ word_of shapes m k j
      word_is m k j = omega arith

      exactly : (q : ℕ) → q < n → (s : State (Unit {0}) View) (r : Kept shapes begin n s) → v.parts ≡ map part_of seats → ((q : ℕ) → q < n → Contains (map (λ (x : SeatView). x.number) seats) q)
          → get_elem? s.views id ≡ some v → times q (map part_of seats) ≡ 1
      exactly q below s r parts every at =
          let known = every q below in
          let least = above_one q seats known.0 known.1 known.2 in
          let above = total_above q s.views id v at in
          let total = r.once q in
          let most = one_at_most q n in
          let e : count q v ≡ times q (map part_of seats) = ap (times q) parts in omega arith

-- the last seat goes before the lists that have come back
pub popped : (xs ys : List SeatView) (x : SeatView) (rest : List Part) → xs ≡ ys ++ x ∷ [] → map part_of ys ++ (part_of x ∷ rest) ≡ map part_of xs ++ rest
popped xs ys x rest e = sym (append_assoc (map part_of ys) (part_of x ∷ []) rest) ∙ (ap (λ (l : List Part). l ++ rest) (sym (map-append part_of ys (x ∷ []))) ∙ ap (λ (l : List SeatView). map part_of l ++ rest) (sym e))

pub all_popped : (P : SeatView → Type 0) (xs ys : List SeatView) (x : SeatView) → xs ≡ ys ++ x ∷ [] → All P xs → All P ys × P x
all_popped P xs ys x e all = All-pop P xs ys (Some x) e all

pub nonempty : (seats : List SeatView) (n : ℕ) → 0 < n → ((q : ℕ) → q < n → Contains (map (λ (s : SeatView). s.number) seats) q) → 0 < length seats
nonempty [] n h every = let t = every 0 h in absurd (omega (arith, t.1))
nonempty (s ∷ ss) n h every = omega arith

pub append_nothing : (l : List Part) → l ++ [] ≡ l
append_nothing [] = refl
append_nothing (x ∷ xs) = ap (λ (m : List Part). x ∷ m) (append_nothing xs)

pub read_at : (l : List ℕ) (i x d : ℕ) → get_elem? l i ≡ some x → get_or l i d ≡ x
read_at [] i x d e = absurd (some-ne-none x (sym e))
read_at (y ∷ ys) zero x d e = some-injective y x e
read_at (y ∷ ys) (suc i) x d e = read_at ys i x d e

pub empty : (l : List SeatView) → ¬ (0 < length l) → l ≡ []
empty [] h = refl
empty (x ∷ xs) h = absurd (h (omega arith))
