use Rattle.std.proofs.Common.{◌≡◌}
use Rattle.xdp_bench.proofs.pages.fill.Given as goal

abbrev pub invariant-loop-frame : goal.invariant-loop-frame
invariant-loop-frame g l = g.B.Bus.size l.bus ≡ g.B.Bus.size l.fn.bus

abbrev pub invariant-loop-frame-2 : goal.invariant-loop-frame-2
invariant-loop-frame-2 g l = g.B.Bus.size l.bus ≡ g.B.Bus.size l.fn.bus

abbrev pub invariant-loop-word : goal.invariant-loop-word
invariant-loop-word g l = g.B.Bus.size l.bus ≡ g.B.Bus.size l.fn.bus

abbrev pub invariant-loop-ring : goal.invariant-loop-ring
invariant-loop-ring g l = g.B.Bus.size l.bus ≡ g.B.Bus.size l.fn.bus
