use Rattle.std.proofs.Common.{arith, ◌≡◌, ◌+◌, ◌*◌, ◌<◌, ◌≤◌, ℕ, List, length, slice_index, ◌∙◌, sym, ap, subst}
use Rattle.std.proofs.lemmas.Grind.{get_or_default_zero}
use Rattle.bpf_note.specs.Keys.{size}
use Rattle.bpf_lists.specs.Order.{Ordered}
use Rattle.bpf_lists.proofs.RowLemmas.{row_inside}
use Rattle.bpf_lists.proofs.order.Order.key.Goals as goal

pub key_at-requires : goal.key_at-requires
key_at-requires c =
    let inv = c.self.invariant in
    let kind = c.self.inside.kind in
    let keys : List ℕ = c.self.inside.keys.items in
    let rows : List ℕ = c.self.inside.rows.items in
    let row = c.index.result.now in
    let long : length rows ≡ length c.args.self.now.rows = ap (λ (o : Ordered). length o.rows) c.self.view_is in
    let place_in : c.args.place < length rows = omega arith in
    let is : row ≡ slice_index rows c.args.place = c.index.ensures ∙ get_or_default_zero rows c.args.place row place_in in
    let below : row < length rows = subst (λ n. n < length rows) (sym is) (inv.below c.args.place place_in) in
    let all = row_inside kind keys row (subst (λ n. row < n) inv.long below) in
    subst (λ xs. size kind * row + size kind ≤ length xs) (sym c.as_slice.ensures.value) all
