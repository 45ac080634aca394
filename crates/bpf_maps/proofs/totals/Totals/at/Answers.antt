use Rattle.std.proofs.Common.{arith, ◌≡◌, ℕ, List, get_or, sym, ap, ◌∙◌, subst}
use Rattle.bpf_note.specs.Shape.{Shape, IsCounter}
use Rattle.bpf_maps.specs.Layout.{place_of}
use Rattle.bpf_maps.specs.Seats.{TotalsView, total_at}
use Rattle.std.proofs.lemmas.Grind.{get_or_default_zero}
use Rattle.bpf_maps.proofs.PlaceLemmas.{place_within}
use Rattle.bpf_maps.proofs.totals.Totals.at.Goals as goal

pub index-requires : goal.index-requires
index-requires c =
    let m = c.args.m in let k = c.args.k in let j = c.args.j in
    let shapes = c.self.inside.shapes.items in
    let mine : IsCounter shapes m k j = subst (λ (l : List Shape). IsCounter l m k j) (sym (ap (λ t. t.shapes) c.self.view_is)) c.requires in
    let at : c.place.result ≡ place_of shapes m k j = c.place.ensures.place ∙ ap (λ (l : List Shape). place_of l m k j) c.as_slice.ensures.value in
    let inside = place_within shapes m k j mine in let wide = c.self.invariant.1 in let ok = c.self.inside.values.ok in omega arith

pub returns : goal.returns
returns c =
    let m = c.args.m in let k = c.args.k in let j = c.args.j in
    let shapes = c.self.inside.shapes.items in
    let mine : IsCounter shapes m k j = subst (λ (l : List Shape). IsCounter l m k j) (sym (ap (λ t. t.shapes) c.self.view_is)) c.requires in
    let at : c.place.result ≡ place_of shapes m k j = c.place.ensures.place ∙ ap (λ (l : List Shape). place_of l m k j) c.as_slice.ensures.value in
    let inside = place_within shapes m k j mine in let wide = c.self.invariant.1 in
    c.index.ensures ∙ (get_or_default_zero c.self.inside.values.items c.place.result _ (omega arith) ∙ (ap (λ (i : ℕ). get_or c.self.inside.values.items i 0) at ∙ ap (λ (t : TotalsView). total_at t m k j) c.self.view_is))
