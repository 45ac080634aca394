use Rattle.std.proofs.Common.{subst, sym}
use Rattle.xen_front.specs.Short.{IsShort}
use Rattle.xen_front.specs.declared.by_event.phase.Phase.{Phase}
use Rattle.xen_front.proofs.ShortLemmas.{short_ready}
use Rattle.xen_front.proofs.front.Front.received.Goals as goal

pub invariant_of-self-clause-short : goal.invariant_of-self-clause-short
invariant_of-self-clause-short c =
    let f = c.args.self.now in
    subst (λ (x : Phase). IsShort f.wiring f.state f.sent f.received x) (sym c.replace-phase.ensures.after) (short_ready f.wiring f.state f.sent f.received)
