use Rattle.std.proofs.Common.{arith, ◌≡◌, sym, ap, ◌∙◌, subst}
use Rattle.bpf_note.specs.Keys.{data_of}
use Rattle.bpf_lists.specs.Keys.{value}
use Rattle.bpf_lists.specs.Order.{IsSpan}
use Rattle.bpf_lists.proofs.OrderLemmas.{span_of_all}
use Rattle.bpf_lists.proofs.order.Order.first_above.Goals as goal

pub probed-first-requires-clause-span : goal.probed-first-requires-clause-span
probed-first-requires-clause-span c =
    subst (λ n. IsSpan c.args.self.now (value c.data_bytes-wanted.result.now) 0 n) (sym c.len.ensures.value) (span_of_all c.args.self.now (value c.data_bytes-wanted.result.now))

pub returns-clause-low : goal.returns-clause-low
returns-clause-low c = λ i low.
    let o = c.args.self.now in
    let wanted : value c.data_bytes-wanted.result.now ≡ value (data_of o.kind c.args.key.now) =
    ap value (c.data_bytes-wanted.ensures.value ∙ (λ i. data_of (c.kind.ensures.value i) c.args.key.now)) in
    let below = c.loop-span.invariant.below i low in
    omega (arith, below, wanted)

pub returns-clause-high : goal.returns-clause-high
returns-clause-high c = λ i le i_in.
    let o = c.args.self.now in
    let wanted : value c.data_bytes-wanted.result.now ≡ value (data_of o.kind c.args.key.now) =
    ap value (c.data_bytes-wanted.ensures.value ∙ (λ i. data_of (c.kind.ensures.value i) c.args.key.now)) in
    let above = c.loop-span.invariant.above i (omega (arith, le, c.loop-span.invariant.in_order)) i_in in
    omega (arith, above, wanted)
