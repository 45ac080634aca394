use Rattle.std.proofs.Common.{◌≡◌, ◌*◌, ℕ, take, get_or, ap, ◌∙◌, arith}
use Rattle.bpf_maps.specs.Layout.{total}
use Rattle.bpf_maps.proofs.PlaceLemmas.{place_is}
use Rattle.bpf_maps.proofs.layout.place.Goals as goal

pub returns-clause-place : goal.returns-clause-place
returns-clause-place c =
    let shapes = c.args.shapes.now in
    let shape = c.index-shapes-m.result in
    let is = place_is shapes c.args.m c.args.k c.args.j shape c.requires.place in
    let at = is.3 in
    let counters : c.counters.result ≡ (get_or shapes c.args.m shape).counters = c.counters.ensures.value ∙ ap (λ s. s.counters) c.index-shapes-m.is in
    let row : c.counters.result * c.args.k ≡ (get_or shapes c.args.m shape).counters * c.args.k = ap (λ (n : ℕ). n * c.args.k) counters in
    let before : c.total-before.result ≡ total (take c.args.m shapes) = c.total-before.ensures.sum in
    omega arith
