use Rattle.std.proofs.Common.{ℕ, ◌<◌}
use Rattle.bpf_lists.specs.Refusals.{IsRow}
use Rattle.bpf_lists.proofs.keys.check_rows.Given as goal

abbrev pub invariant-loop-row : goal.invariant-loop-row
invariant-loop-row l = (s : ℕ) → s < l.row → IsRow l.kind l.keys s
