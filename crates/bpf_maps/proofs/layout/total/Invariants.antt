use Rattle.std.proofs.Common.{◌≡◌, ◌*◌, ◌≤◌, take}
use Rattle.bpf_maps.specs.Layout.{total}
use Rattle.bpf_maps.proofs.layout.total.Given as goal

abbrev pub invariant-loop-shape : goal.invariant-loop-shape
invariant-loop-shape l = (l.count ≡ total (take l.shape-index l.shapes)) × (l.count ≤ 524288 * l.shape-index)
