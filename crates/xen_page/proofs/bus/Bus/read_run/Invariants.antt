use Rattle.std.proofs.Common.{◌≡◌}
use Rattle.xen_page.specs.Run.{HasRead}
use Rattle.xen_page.proofs.bus.Bus.read_run.Given as goal

abbrev pub invariant-loop-number : goal.invariant-loop-number
invariant-loop-number g l =
    record {
      size : g.Self.Bus.size l.self ≡ g.Self.Bus.size l.fn.self;
      read : HasRead g.Self.Bus.log g.Self.Bus.access_gives l.at l.number l.fn.self l.fn.room l.self l.room;
    }
