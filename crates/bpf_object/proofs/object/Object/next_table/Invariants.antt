use Rattle.std.proofs.Common.{ℕ, ◌<◌, ◌≤◌}
use Rattle.bpf_object.specs.Program.{AppliesTo}
use Rattle.bpf_object.proofs.object.Object.next_table.Given as goal

abbrev pub invariant-loop-number : goal.invariant-loop-number
invariant-loop-number l = (q : ℕ) → l.from ≤ q → q < l.number → AppliesTo l.self l.target q → ⊥
