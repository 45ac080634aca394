use Rattle.std.proofs.Common.{◌≡◌, ◌≢◌, ℕ, ◌<◌, List, get_or, sym, ap, ◌∙◌, subst, get_or-set_other, get_or-set_same, set, arith, ◌+◌, ◌%◌}
use Rattle.bpf_note.specs.Shape.{Shape, IsCounter}
use Rattle.bpf_maps.specs.Layout.{place_of, total}
use Rattle.bpf_maps.specs.Seats.{TotalsView, total_at}
use Rattle.std.proofs.lemmas.Grind.{get_or_default_zero}
use Rattle.bpf_maps.proofs.PlaceLemmas.{apart, place_within}
use Rattle.bpf_maps.proofs.totals.Totals.add.Goals as goal

pub returns-clause-others : goal.returns-clause-others
returns-clause-others c x y z h not_it =
    let m = c.args.m in let k = c.args.k in let j = c.args.j in
    let shapes = c.self.inside.shapes.items in
    let known : shapes ≡ c.args.self.now.shapes = ap (λ t. t.shapes) c.self.view_is in
    let at : c.place-place.result ≡ place_of shapes m k j = c.place-place.ensures.place ∙ ap (λ (l : List Shape). place_of l m k j) c.as_slice.ensures.value in
    let h' : IsCounter shapes x y z = subst (λ (l : List Shape). IsCounter l x y z) (sym known) h in
    let mine : IsCounter shapes m k j = subst (λ (l : List Shape). IsCounter l m k j) (sym known) c.requires in
    let other : place_of shapes x y z ≢ c.place-place.result = λ e. not_it (apart shapes x y z m k j h' mine (e ∙ at)) in
    get_or-set_other c.self.inside.values.items c.place-place.result (place_of shapes x y z) _ 0 other ∙ ap (λ (t : TotalsView). total_at t x y z) c.self.view_is

within' : (shapes : List Shape) (m k j place n : ℕ) → IsCounter shapes m k j → place ≡ place_of shapes m k j → n ≡ total shapes → place < n
within' shapes m k j place n h at wide = let inside = place_within shapes m k j h in omega arith

pub index-old-requires : goal.index-old-requires
index-old-requires c =
    let m = c.args.m in let k = c.args.k in let j = c.args.j in
    let shapes = c.self.inside.shapes.items in
    let mine : IsCounter shapes m k j = subst (λ (l : List Shape). IsCounter l m k j) (sym (ap (λ t. t.shapes) c.self.view_is)) c.requires in
    let r = within' shapes m k j c.place-place.result _ mine (c.place-place.ensures.place ∙ ap (λ (l : List Shape). place_of l m k j) c.as_slice.ensures.value) c.self.invariant.1 in
    let ok = c.self.inside.values.ok in omega arith

pub index_mut-requires : goal.index_mut-requires
index_mut-requires c =
    let m = c.args.m in let k = c.args.k in let j = c.args.j in
    let shapes = c.self.inside.shapes.items in
    let mine : IsCounter shapes m k j = subst (λ (l : List Shape). IsCounter l m k j) (sym (ap (λ t. t.shapes) c.self.view_is)) c.requires in
    let r = within' shapes m k j c.place-place.result _ mine (c.place-place.ensures.place ∙ ap (λ (l : List Shape). place_of l m k j) c.as_slice.ensures.value) c.self.invariant.1 in
    let ok = c.self.inside.values.ok in omega arith

pub returns-clause-answer : goal.returns-clause-answer
returns-clause-answer c =
    let m = c.args.m in let k = c.args.k in let j = c.args.j in
    let at : c.place-place.result ≡ place_of c.self.inside.shapes.items m k j = c.place-place.ensures.place ∙ ap (λ (l : List Shape). place_of l m k j) c.as_slice.ensures.value in
    let shapes = c.self.inside.shapes.items in
    let mine : IsCounter shapes m k j = subst (λ (l : List Shape). IsCounter l m k j) (sym (ap (λ t. t.shapes) c.self.view_is)) c.requires in
    let r = within' shapes m k j c.place-place.result _ mine at c.self.invariant.1 in
    c.index-old.ensures ∙ (get_or_default_zero c.self.inside.values.items c.place-place.result _ r ∙ (ap (λ (i : ℕ). get_or c.self.inside.values.items i 0) at ∙ ap (λ (t : TotalsView). total_at t m k j) c.self.view_is))

pub returns-clause-here : goal.returns-clause-here
returns-clause-here c =
    let m = c.args.m in let k = c.args.k in let j = c.args.j in
    let shapes = c.self.inside.shapes.items in
    let mine : IsCounter shapes m k j = subst (λ (l : List Shape). IsCounter l m k j) (sym (ap (λ t. t.shapes) c.self.view_is)) c.requires in
    let at : c.place-place.result ≡ place_of shapes m k j = c.place-place.ensures.place ∙ ap (λ (l : List Shape). place_of l m k j) c.as_slice.ensures.value in
    let r = within' shapes m k j c.place-place.result _ mine at c.self.invariant.1 in
    ap (λ (i : ℕ). get_or (set c.self.inside.values.items c.place-place.result ((c.index-old.result.now + c.args.delta) % 18446744073709551616)) i 0) (sym at) ∙ get_or-set_same c.self.inside.values.items c.place-place.result _ 0 r
