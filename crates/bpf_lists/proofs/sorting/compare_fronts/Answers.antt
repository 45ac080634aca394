use Rattle.std.proofs.Common.{arith, ◌≡◌, ◌<◌, min, slice_index, sym, ◌∙◌, ap}
use Rattle.std.specs.Ordering.{nat_cmp}
use Rattle.bpf_note.specs.Keys.{data_of}
use Rattle.bpf_lists.specs.Keys.{row, count}
use Rattle.bpf_lists.specs.Order.{lead}
use Rattle.bpf_lists.proofs.FrontLemmas.{fronts_decide}
use Rattle.bpf_lists.proofs.sorting.compare_fronts.Goals as goal

pub returns-then-first-second : goal.returns-then-first-second
returns-then-first-second c =
    let kind = c.args.kind in
    let keys = c.args.keys.now in
    let last = c.args.last in
    let a_in : min c.args.a last < count kind keys = omega (arith, c.requires.last) in
    let b_in : min c.args.b last < count kind keys = omega (arith, c.requires.last) in
    let first : slice_index c.args.fronts.now c.min.result ≡ lead (data_of kind (row kind keys (min c.args.a last))) =
    ap (slice_index c.args.fronts.now) c.min.ensures ∙ c.requires.fronts.each (min c.args.a last) a_in in
    let second : slice_index c.args.fronts.now c.min-2.result ≡ lead (data_of kind (row kind keys (min c.args.b last))) =
    ap (slice_index c.args.fronts.now) c.min-2.ensures ∙ c.requires.fronts.each (min c.args.b last) b_in in
    c.cmp.ensures ∙ (λ i. nat_cmp (first i) (second i)) ∙ fronts_decide kind keys last c.args.a c.args.b c.requires.rows (λ k. (c.type_inv.keys k).fits)
    c.requires.last c.ranges.a.fits c.ranges.b.fits (λ e. c.if-first-second.true (first ∙ e ∙ sym second))
