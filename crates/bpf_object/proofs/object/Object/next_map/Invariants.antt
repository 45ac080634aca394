use Rattle.std.proofs.Common.{ℕ, ◌<◌, ◌≤◌}
use Rattle.bpf_object.specs.Symbol.{IsMap}
use Rattle.bpf_object.proofs.object.Object.next_map.Given as goal

abbrev pub invariant-loop-number : goal.invariant-loop-number
invariant-loop-number l = (m : ℕ) → l.from ≤ m → m < l.number → IsMap l.self m → ⊥
