use Rattle.std.proofs.Common.{◌≡◌}
use Rattle.example_vm.proofs.run_with.Given as goal

abbrev pub invariant-loop : goal.invariant-loop
invariant-loop l = l.totals.shapes ≡ l.vm.program.shapes
