use Rattle.std.proofs.Common.{List, ℕ, refl, sym, subst, arith}
use Rattle.xen_page.specs.Access.{Performs}
use Rattle.xen_steps.specs.Drive.{accesses}
use Rattle.xen_host.specs.Asks.{writes_at}
use Rattle.xen_host.proofs.ChainLemmas.{taken_words, words_length}
use Rattle.xen_host.proofs.over_bus.OverBusHost.write.Goals as goal

pub returns-then-are_in_bus-clause-asked : goal.returns-then-are_in_bus-clause-asked
returns-then-are_in_bus-clause-asked g c =
    let p = c.put_packet.ensures in
    let bytes = c.args.bytes.now in
    let n = c.args.count in
    record {
      performed = λ h. subst (λ (l : List ℕ). Performs g.B.Bus.log g.B.Bus.access_gives c.args.self.now.bus.now (accesses (writes_at c.args.at l)) c.put_packet.new.self.bus.now) (sym (taken_words bytes c.args.from n)) p.wrote;
      sized = p.size;
      held = words_length bytes c.args.from n;
      over = p.beside.0;
      loan = p.beside.1;
    }

pub returns-else-are_in_bus-clause-asked : goal.returns-else-are_in_bus-clause-asked
returns-else-are_in_bus-clause-asked g c =
    record {
      performed = λ h. let t = c.are_in_bus.ensures.1 (h.0, omega (arith, h.1)) in absurd (cc (t, c.if-are_in_bus.false));
      sized = refl;
      held = words_length c.args.bytes.now c.args.from c.args.count;
      over = refl;
      loan = refl;
    }
