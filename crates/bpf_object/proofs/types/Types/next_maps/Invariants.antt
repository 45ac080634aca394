use Rattle.std.proofs.Common.{ℕ, ◌<◌, ◌≤◌}
use Rattle.bpf_object.specs.Map.{IsMaps}
use Rattle.bpf_object.proofs.types.Types.next_maps.Given as goal

abbrev pub invariant-loop-number : goal.invariant-loop-number
invariant-loop-number l = (m : ℕ) → l.from ≤ m → m < l.number → IsMaps l.self m → ⊥
