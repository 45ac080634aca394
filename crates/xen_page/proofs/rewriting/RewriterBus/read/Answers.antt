use Rattle.std.proofs.Common.{[], ◌∷◌}
use Rattle.xen_page.proofs.AccessLemmas.{performs_one, performs_then}
use Rattle.xen_page.specs.Rewritten.{bus_in, due_at, next_of, writes_of}
use Rattle.xen_page.specs.declared.access.Access.{Access}
use Rattle.xen_page.specs.declared.access.Access.TheVariants as access
use Rattle.xen_page.proofs.rewriting.RewriterBus.read.Goals as goal

pub returns-clause-given : goal.returns-clause-given
returns-clause-given g c =
    let before = c.args.self.now in
    let mid = c.rewrite.new.self in
    let a : Access = access.Read c.args.at c.read.result in
    record {
      performs = performs_then g.B.Bus.log g.B.Bus.access_gives (bus_in before) mid.bus c.read.new.self (due_at (next_of before) (writes_of before)) (a ∷ [])
          c.rewrite.ensures.performs (performs_one g.B.Bus.log g.B.Bus.access_gives mid.bus a c.read.new.self c.read.ensures.told c.read.ensures.given);
      writes = c.rewrite.ensures.writes;
      next = c.rewrite.ensures.next;
    }
