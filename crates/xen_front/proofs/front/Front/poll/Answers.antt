use Rattle.std.proofs.Common.{arith, rules}
use Rattle.xen_front.specs.Tree.{poll}
use Rattle.xen_front.proofs.BoundLemmas.{bounded_poll}
use Rattle.xen_front.proofs.ShortLemmas.{short_begun}
use Rattle.xen_front.proofs.front.Front.poll.Goals as goal

pub invariant_of-self-clause-short : goal.invariant_of-self-clause-short
invariant_of-self-clause-short c =
    let f = c.args.self.now in
    short_begun f.wiring f.state f.sent f.received c.begin_poll-self.result (poll f.wiring f.state) 16954 f.wired (omega arith) (bounded_poll f.wiring f.wired f.state (record { tx = search rules; rx = search rules }))
    (c.begin_poll-self.ensures.rest f.wiring f.state f.sent f.received)
