use Rattle.std.proofs.Common.{◌≡◌}
use Rattle.xdp_bench.proofs.pages.publish.Given as goal

abbrev pub invariant-loop-packet : goal.invariant-loop-packet
invariant-loop-packet g l = g.B.Bus.size l.bus ≡ g.B.Bus.size l.fn.bus
