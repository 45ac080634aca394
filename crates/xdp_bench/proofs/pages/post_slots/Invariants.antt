use Rattle.std.proofs.Common.{◌≡◌}
use Rattle.xdp_bench.proofs.pages.post_slots.Given as goal

abbrev pub invariant-loop-slot : goal.invariant-loop-slot
invariant-loop-slot g l = g.B.Bus.size l.bus ≡ g.B.Bus.size l.fn.bus
