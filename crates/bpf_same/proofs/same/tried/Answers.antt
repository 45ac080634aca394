use Rattle.std.proofs.Common.{refl}
use Rattle.std.proofs.lemmas.Result.{IfOk-weaker}
use Rattle.bpf_same.proofs.SimulationLemmas.{same_runs}
use Rattle.bpf_same.proofs.same.tried.Goals as goal

pub returns-then-branch-clause-shown : goal.returns-then-branch-clause-shown
returns-then-branch-clause-shown c = λ is. same_runs _ c.args.new.now c.args.shapes.now c.the_entry_describes_every_start.ensures refl (c.in_ok-is_simulation.ensures c.if-branch.true)
