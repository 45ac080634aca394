use Rattle.std.proofs.Common.{arith, ◌≡◌, ◌+◌, ℕ, suc, take, ap}
use Rattle.bpf_maps.specs.Layout.{size, total}
use Rattle.bpf_maps.proofs.PlaceLemmas.{total_more}
use Rattle.bpf_maps.proofs.layout.total.Goals as goal

pub loop-shape-preserved : goal.loop-shape-preserved
loop-shape-preserved c =
    let shapes = c.args.shapes.now in
    let i = c.loop-shape.shape-index in
    let next : i + 1 ≡ suc i = omega arith in
    let moved = ap (λ (n : ℕ). total (take n shapes)) next in
    let more = total_more shapes i c.shape-item.result c.loop-shape-test.true in
    let same = ap size c.shape-item.is in
    let one = c.size-count.ensures.size in
    let before = c.loop-shape.invariant.0 in
    let most = c.size-count.ensures.most in
    let few = c.loop-shape.invariant.1 in
    (omega (arith, moved, more, same, one, before), omega (arith, most, few))
