use Rattle.std.proofs.Common.{ℕ, ◌<◌, ◌≤◌}
use Rattle.bpf_object.specs.Map.{IsVariable}
use Rattle.bpf_object.proofs.types.Types.next_variable.Given as goal

abbrev pub invariant-loop-number : goal.invariant-loop-number
invariant-loop-number l = (m : ℕ) → l.from ≤ m → m < l.number → IsVariable l.self l.row l.name m → ⊥
