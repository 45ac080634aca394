use Rattle.std.proofs.Common.{[], ◌∷◌}
use Rattle.xen_page.proofs.AccessLemmas.{performs_one, performs_then}
use Rattle.xen_page.specs.Rewritten.{bus_in, due_at, next_of, writes_of}
use Rattle.xen_page.specs.declared.access.Access.{Access}
use Rattle.xen_page.specs.declared.access.Access.TheVariants as access
use Rattle.xen_page.proofs.rewriting.RewriterBus.cas.Goals as goal

pub returns-clause-given : goal.returns-clause-given
returns-clause-given g c =
    let before = c.args.self.now in
    let mid = c.rewrite.new.self in
    let a : Access = access.Exchange c.args.at c.args.old c.args.new c.cas.result in
    record {
      performs = performs_then g.B.Bus.log g.B.Bus.access_gives (bus_in before) mid.bus c.cas.new.self (due_at (next_of before) (writes_of before)) (a ∷ [])
          c.rewrite.ensures.performs (performs_one g.B.Bus.log g.B.Bus.access_gives mid.bus a c.cas.new.self c.cas.ensures.told c.cas.ensures.given);
      writes = c.rewrite.ensures.writes;
      next = c.rewrite.ensures.next;
    }
