use Rattle.std.proofs.Common.{arith, ◌≡◌, ◌*◌, ◌<◌, ◌≤◌, None, length, sym, ◌∙◌, ap, subst}
use Rattle.bpf_note.specs.Keys.{size, width, bits_of}
use Rattle.bpf_lists.specs.Keys.{Keyed, IsFound, IsLongest}
use Rattle.bpf_lists.specs.Order.{Reaches}
use Rattle.bpf_lists.proofs.OrderLemmas.{climb_start}
use Rattle.bpf_lists.proofs.FindLemmas.{found_none, found_some}
use Rattle.bpf_lists.proofs.rows.KeyedRows.search.Goals as goal

pub climb-above-requires-clause-start : goal.climb-above-requires-clause-start
climb-above-requires-clause-start c =
    let o = c.self.inside.order in
    let long : length c.args.key.now ≡ size o.kind = c.requires ∙ sym (ap (λ (k : Keyed). size k.kind) c.self.view_is) in
    climb_start o c.kind-kind.ensures.ordered c.first_above-from.result c.args.key.now c.first_above-from.ensures.most long c.first_above-from.ensures.low

pub returns-then-above-eq0 : goal.returns-then-above-eq0
returns-then-above-eq0 c =
    let o = c.self.inside.order in
    let key = c.args.key.now in
    let from = c.first_above-from.result in
    let long : length key ≡ size o.kind = c.requires ∙ sym (ap (λ (k : Keyed). size k.kind) c.self.view_is) in
    let reaches = subst (λ n. Reaches o from key n) c.if-above-eq0.true c.climb-above.ensures.reaches in
    subst (λ (k : Keyed). IsFound k.kind k.keys key None) c.self.view_is
    (found_none o c.kind-kind.ensures.ordered from key long c.first_above-from.ensures.high reaches)

pub returns : goal.returns
returns c =
    let o = c.self.inside.order in
    let key = c.args.key.now in
    let from = c.first_above-from.result in
    let above = c.climb-above.result in
    let long : length key ≡ size o.kind = c.requires ∙ sym (ap (λ (k : Keyed). size k.kind) c.self.view_is) in
    let some : 0 < above = omega (arith, c.if-above-eq0.false) in
    let bits : c.data_bits.result ≡ bits_of o.kind key = c.data_bits.ensures ∙ ap (λ k. bits_of k key) c.kind-kind.ensures.value in
    let wide : c.width.result ≡ width o.kind = c.width.ensures ∙ ap (λ k. width k) c.kind-kind.ensures.value in
    let short : bits_of o.kind key ≤ 8 * width o.kind = omega (arith, c.if-data_bits-width.false) in
    let is = found_some o c.kind-kind.ensures.ordered from above key long (λ k. (c.type_inv.key k).fits) c.first_above-from.ensures.high
    c.first_above-from.ensures.most some c.climb-above.ensures.most c.climb-above.ensures.reaches (c.climb-above.ensures.covers some) short in
    subst (λ (k : Keyed). IsLongest k.kind k.keys key c.row.result) c.self.view_is (subst (λ n. IsLongest o.kind o.keys key n) (sym c.row.ensures) is)
