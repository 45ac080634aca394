use Rattle.std.proofs.Common.{◌≡◌, ◌∙◌, ℕ, ◌+◌, ◌<◌, ◌++◌, List, All, length, suc, map, take, sym, ap, subst, arith, get_or}
use Rattle.std.proofs.lemmas.List.{take_all}
use Rattle.std.proofs.lemmas.List.Elements.{All-append}
use Rattle.bpf_maps.specs.Layout.{place_of, size, total}
use Rattle.bpf_maps.specs.Numbers.{filled, laid}
use Rattle.bpf_maps.proofs.NumberLemmas.{laid_first, laid_long, laid_next, small_place}
use Rattle.bpf_note.specs.Shape.{Shape}
use Rattle.bpf_maps.proofs.totals.Totals.begin.Goals as goal

pub loop-m-preserved : goal.loop-m-preserved
loop-m-preserved c =
    let before = c.loop-m.invariant in
    let shapes = c.args.shapes.now in
    let lists : List (List ℕ) = map (λ v. v.items) c.args.lists.now in
    let m = c.loop-m.m in
    let next : m + 1 ≡ suc m = omega arith in
    let count : c.size.result ≡ size (get_or shapes m c.index-shapes-m.result) = c.size.ensures.size ∙ ap size c.index-shapes-m.is in
    let pushed : c.push_numbers.new.values.items ≡ laid 0 (take (m + 1) shapes) lists =
    c.in_ok-push_numbers.ensures.pushed
    ∙ (λ i. before.0 i ++ filled (count i) (c.numbers_of.ensures i))
    ∙ sym (ap (λ (k : ℕ). laid 0 (take k shapes) lists) next ∙ laid_next shapes lists m c.index-shapes-m.result c.loop-m-test.true) in (
      pushed,
      subst (All (λ (n : ℕ). n < 18446744073709551616)) (sym c.in_ok-push_numbers.ensures.pushed)
          (All-append (λ (n : ℕ). n < 18446744073709551616) c.loop-m.values.items _ before.1 c.in_ok-push_numbers.ensures.small),
    )

all : (c : goal.In_ok-shapes) → c.loop-m.values.items ≡ laid 0 c.args.shapes.now (map (λ v. v.items) c.args.lists.now)
all c = c.loop-m.invariant.0 ∙ ap (λ (ss : List Shape). laid 0 ss (map (λ v. v.items) c.args.lists.now)) (take_all c.loop-m.m c.args.shapes.now (omega (arith, c.loop-m-test.false)))

pub invariant_of-result : goal.invariant_of-result
invariant_of-result c =
    let copy = c.in_ok-shapes.ensures in (
      omega (arith, ap length copy, c.requires),
      ap length (all c) ∙ laid_long 0 c.args.shapes.now (map (λ v. v.items) c.args.lists.now) ∙ sym (ap total copy),
    )

pub returns-clause-begins : goal.returns-clause-begins
returns-clause-begins c m k j is =
    let shapes = c.args.shapes.now in
    let lists : List (List ℕ) = map (λ v. v.items) c.args.lists.now in
    ap (λ (ss : List Shape). get_or c.loop-m.values.items (place_of ss m k j) 0) c.in_ok-shapes.ensures
    ∙ ap (λ (l : List ℕ). get_or l (place_of shapes m k j) 0) (all c)
    ∙ laid_first shapes lists m k j is

pub returns-clause-small : goal.returns-clause-small
returns-clause-small c m k j = small_place c.loop-m.values.items _ c.loop-m.invariant.1
