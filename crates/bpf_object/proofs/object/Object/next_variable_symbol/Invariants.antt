use Rattle.std.proofs.Common.{ℕ, ◌≡◌, ◌<◌, ◌≤◌}
use Rattle.bpf_object.specs.Map.{IsVariableSymbol}
use Rattle.bpf_object.proofs.object.Object.next_variable_symbol.Given as goal

abbrev pub invariant-loop-number : goal.invariant-loop-number
invariant-loop-number l = record {
  kept : l.sought ≡ l.fn.sought;
  none : (m : ℕ) → l.from ≤ m → m < l.number → IsVariableSymbol l.self l.fn.sought.name m → ⊥;
}
