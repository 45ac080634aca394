use Rattle.std.proofs.Common.{◌≡◌, ◌++◌, drop, map, take}
use Rattle.xen_host.specs.Severals.{result_in}
use Rattle.xen_host.proofs.queue.Queue.write_results.Given as goal

abbrev pub invariant-loop-k : goal.invariant-loop-k
invariant-loop-k l = l.results ≡ map result_in (take l.k l.self.several.lanes) ++ drop l.k l.fn.results
