use Rattle.std.proofs.Common.{◌≡◌}
use Rattle.xen_page.specs.Access.{Performs}
use Rattle.xen_front.specs.Rest.{id_of}
use Rattle.xen_front.specs.Slots.{buffer, page_writes}
use Rattle.xen_front.specs.Straight.{touched}
use Rattle.xen_front.proofs.in_one_go.straight.fill_page.Given as goal

abbrev pub invariant-loop-word : goal.invariant-loop-word
invariant-loop-word g l =
    record {
      size : g.B.Bus.size l.bus ≡ g.B.Bus.size l.fn.bus;
      wrote : Performs g.B.Bus.log g.B.Bus.access_gives l.fn.bus (touched (page_writes l.sent (buffer l.wiring.tx.now (id_of l.piece)).frame l.piece.index l.word 0)) l.bus;
    }
