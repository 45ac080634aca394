use Rattle.std.proofs.Common.{ℕ, ◌+◌, ◌<◌}
use Rattle.bpf_object.specs.Program.{relocation}
use Rattle.bpf_object.proofs.program.check_order.Given as goal

abbrev pub invariant-loop-row : goal.invariant-loop-row
invariant-loop-row l = (j : ℕ) → j + 1 < l.row → (relocation l.rows j).offset < (relocation l.rows (j + 1)).offset
