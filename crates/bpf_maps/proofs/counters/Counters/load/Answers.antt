use Rattle.std.proofs.Common.{arith, ◌≡◌, ◌+◌, List, sym, ap, ◌∙◌, subst}
use Rattle.bpf_note.specs.declared.op.Op.TheVariants.{Load}
use Rattle.bpf_note.specs.Shape.{Shape, IsCounter}
use Rattle.bpf_maps.specs.Layout.{place_of}
use Rattle.bpf_maps.specs.Rule.{word_of, grown}
use Rattle.bpf_maps.proofs.StepLemmas.{loads_at}
use Rattle.bpf_maps.proofs.PlaceLemmas.{word_within}
use Rattle.bpf_maps.proofs.GrowthLemmas.{still_one, after}
use Rattle.bpf_maps.proofs.counters.Counters.load.Goals as goal

pub load-requires : goal.load-requires
load-requires c =
    let m = c.args.m in let k = c.args.k in let j = c.args.j in
    let shapes = c.self.inside.plan.shapes.items in
    let known : shapes ≡ c.args.self.now.shapes = ap (λ v. v.shapes) c.self.view_is in
    let in_range : IsCounter shapes m k j = subst (λ (l : List Shape). IsCounter l m k j) (sym known) c.requires.place in
    let at : c.place-place.result ≡ place_of shapes m k j = c.place-place.ensures.place ∙ ap (λ (l : List Shape). place_of l m k j) c.as_slice.ensures.value in
    let word : c.place-place.result + 1 ≡ word_of shapes m k j = omega arith in
    let inside = word_within shapes m k j in_range in
    let words = c.self.invariant.2 in (
      ap (λ s. s.table) c.seat.view_is ∙ (c.requires.seat.0 ∙ sym (ap (λ v. v.table) c.self.view_is)),
      omega arith,
      loads_at _ shapes _ _ _ _ _ _ m k j (ap (λ p. p.shapes.items) c.self.invariant.0) word c.seat.invariant.1 in_range,
    )

grew : (c : goal.After-load) → c.load.new.seat.me.0 ≡ grown c.seat.inside.seat.me.0 (Load c.args.m c.args.k c.args.j c.load.result)
grew c =
    let m = c.args.m in let k = c.args.k in let j = c.args.j in
    let mine : c.seat.inside.seat.me.0.shapes ≡ c.args.self.now.shapes = ap (λ s. s.shapes) c.seat.view_is ∙ c.requires.seat.1 in
    let same_shapes : c.as_slice.result.now ≡ c.seat.inside.seat.me.0.shapes = c.as_slice.ensures.value ∙ (ap (λ v. v.shapes) c.self.view_is ∙ sym mine) in
    c.load.ensures.2.1 m k j (subst (λ (l : List Shape). IsCounter l m k j) (sym mine) c.requires.place) (let at : c.place-place.result ≡ place_of c.seat.inside.seat.me.0.shapes m k j = c.place-place.ensures.place ∙ ap (λ (l : List Shape). place_of l m k j) same_shapes in omega arith)

pub invariant_of-seat : goal.invariant_of-seat
invariant_of-seat c = (c.load.ensures.2.0 ∙ c.seat.invariant.0, still_one _ _ _ (grew c) c.seat.invariant.1)

pub returns : goal.returns
returns c = after _ _ _ _ _ _ c.load.ensures.0 (grew c) c.seat.invariant.1 c.seat.view_is
