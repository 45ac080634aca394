use Rattle.std.proofs.Common.{◌≡◌, None, replicate}
use Rattle.xdp_object.proofs.constants.no_lists.Given as goal

abbrev pub invariant-loop : goal.invariant-loop
invariant-loop l = l.lists.items ≡ replicate l.counter None
