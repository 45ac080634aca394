use Rattle.xdp_load.specs.Listed.{AreListedBelow}
use Rattle.xdp_program.proofs.lists.are_listed.Given as goal

abbrev pub invariant-loop-list : goal.invariant-loop-list
invariant-loop-list l = AreListedBelow l.lists l.list-index
