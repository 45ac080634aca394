use Rattle.std.proofs.Common.{◌≡◌, take}
use Rattle.xen_page.specs.Access.{Performs}
use Rattle.xen_page.specs.Rewritten.{due_before}
use Rattle.xen_page.proofs.rewriting.write_due.Given as goal

abbrev pub invariant-loop-before : goal.invariant-loop-before
invariant-loop-before g l =
    record {
      size : g.B.Bus.size l.bus ≡ g.B.Bus.size l.initial.bus;
      performs : Performs g.B.Bus.log g.B.Bus.access_gives l.initial.bus (due_before l.number (take l.before-index l.writes)) l.bus;
    }
