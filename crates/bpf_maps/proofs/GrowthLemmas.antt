-- A seat's view with one list, and one operation more.
use Rattle.std.proofs.Common.{◌≡◌, ℕ, List, [], ◌∷◌, ◌++◌, length, sym, refl, ap, ◌∙◌, subst, arith}
use Rattle.atomic_table.specs.Seated.{TableId}
use Rattle.bpf_note.specs.declared.op.Op.{Op}
use Rattle.bpf_maps.specs.declared.view.Part.{Part}
use Rattle.bpf_maps.specs.declared.view.View.{View}
use Rattle.std.proofs.lemmas.List.Elements.{All-head, All-tail}
use Rattle.bpf_note.specs.History.{share}
use Rattle.bpf_note.specs.Shape.{Shape}
use Rattle.bpf_maps.specs.Beginning.{began}
use Rattle.bpf_maps.specs.Rule.{part, view, grown, grown_first, AreShares}
use Rattle.bpf_maps.proofs.ViewLemmas.{times_here}
use Rattle.bpf_maps.specs.Seats.{SeatView, StandTogether, seat_view, number_of, ops_of}

pub single : (ps : List Part) → length ps ≡ 1 → ps ≡ part (number_of ps) (ops_of ps) ∷ []
single [] h = absurd (omega arith)
single (p ∷ []) h = refl
single (p ∷ q ∷ ps) h = absurd (omega arith)

pub still_one : (v w : View) (o : Op) → w ≡ grown v o → length v.parts ≡ 1 → length w.parts ≡ 1
still_one v w o e h = let s = single v.parts h in ap (λ (u : View). length u.parts) e ∙ ap (λ (ps : List Part). length (grown_first ps o)) s

pub after : (t t' : TableId) (v w : View) (o : Op) (s : SeatView) → t' ≡ t → w ≡ grown v o → length v.parts ≡ 1 → seat_view t v ≡ s
    → seat_view t' w ≡ record { table = s.table; shapes = s.shapes; begin = s.begin; number = s.number; ops = s.ops ++ o ∷ [] }
after t t' v w o s same e h is =
    let one = single v.parts h in
    let Q : ℕ = number_of v.parts in
    let X : List Op = ops_of v.parts in
    let w_is : w ≡ view v.shapes v.begin (part Q (X ++ o ∷ []) ∷ []) = e ∙ ap (λ (ps : List Part). view v.shapes v.begin (grown_first ps o)) one in
    (λ i. seat_view (same i) (w_is i)) ∙ ap (λ (z : SeatView). record { table = z.table; shapes = z.shapes; begin = z.begin; number = z.number; ops = z.ops ++ o ∷ [] }) is

pub together : (shapes : List Shape) (begin : List ℕ) (t t' : TableId) (v w : View) (ps : List Part) → length v.parts ≡ 1 → length w.parts ≡ 1 → ps ≡ w.parts ++ v.parts → AreShares shapes begin ps → StandTogether (began shapes begin) (seat_view t v) (seat_view t' w)
together shapes begin t t' v w ps one two is shares =
    let a : Part = part (number_of v.parts) (ops_of v.parts) in
    let b : Part = part (number_of w.parts) (ops_of w.parts) in
    let pair : ps ≡ b ∷ a ∷ [] = is ∙ (λ i. single w.parts two i ++ single v.parts one i) in
    let known = subst (AreShares shapes begin) pair shares in
    let P : Part → Type 0 = λ p. share p.number known.0 ≡ p.ops in record {
      history = known.0;
      legal = known.1;
      first = All-head P a [] (All-tail P b (a ∷ []) known.2);
      second = All-head P b (a ∷ []) known.2;
      apart = λ same. let first = times_here b.number b (a ∷ []) refl in let second = times_here b.number a [] (sym same) in let most = known.3 b.number in absurd (omega arith);
    }
