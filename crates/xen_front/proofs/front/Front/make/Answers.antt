use Rattle.xen_buffers.specs.Wired.{wiring_in}
use Rattle.xen_front.proofs.ShortLemmas.{short_ready}
use Rattle.xen_front.proofs.front.Front.make.Goals as goal

pub invariant_of-result-clause-short : goal.invariant_of-result-clause-short
invariant_of-result-clause-short c = short_ready (wiring_in c.args.desc) _ c.in_ok-sent.sent c.in_ok-received.received
