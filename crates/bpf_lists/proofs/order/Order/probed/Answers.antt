use Rattle.std.proofs.Common.{arith, inl, inr, ◌≤◌}
use Rattle.bpf_note.specs.Keys.{data_of}
use Rattle.bpf_lists.specs.Keys.{value}
use Rattle.bpf_lists.specs.Order.{at}
use Rattle.bpf_lists.proofs.NestLemmas.{le_or_lt}
use Rattle.bpf_lists.proofs.OrderLemmas.{span_below, span_above}
use Rattle.bpf_lists.proofs.order.Order.probed.Goals as goal

pub returns-then-is_above-clause-span : goal.returns-then-is_above-clause-span
returns-then-is_above-clause-span c =
    span_below c.args.self.now c.kind-kind.ensures.ordered (value c.args.wanted.now) c.args.span.low c.args.span.high c.args.place c.requires.span (omega arith) (omega arith) (c.is_above.ensures.0 c.if-is_above.true)

pub returns-else-is_above-clause-span : goal.returns-else-is_above-clause-span
returns-else-is_above-clause-span c =
    let o = c.args.self.now in
    let v = value c.args.wanted.now in
    let not_above : value (data_of o.kind (at o c.args.place)) ≤ v = elim (le_or_lt (value (data_of o.kind (at o c.args.place))) v) as (λ x. value (data_of o.kind (at o c.args.place)) ≤ v) [
      | inl le ↦ le
      | inr lt ↦ (let yes = c.is_above.ensures.1 lt in let no = c.if-is_above.false in cc)
    ] in
    span_above o c.kind-kind.ensures.ordered v c.args.span.low c.args.span.high c.args.place c.requires.span (omega arith) (omega arith) not_above
