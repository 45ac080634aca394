use Rattle.std.proofs.Common.{ℕ, ◌<◌, ◌≤◌}
use Rattle.bpf_object.specs.Object.{IsSymbolTable}
use Rattle.bpf_object.proofs.object.next_symbol_table.Given as goal

abbrev pub invariant-loop-number : goal.invariant-loop-number
invariant-loop-number l = (u : ℕ) → l.from ≤ u → u < l.number → IsSymbolTable l.bytes u → ⊥
