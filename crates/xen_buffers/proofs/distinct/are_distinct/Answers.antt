use Rattle.std.proofs.Common.{◌+◌, ◌-◌, length, refl}
use Rattle.xen_buffers.proofs.DistinctLemmas.{distinct_more}
use Rattle.xen_buffers.proofs.distinct.are_distinct.Goals as goal

pub loop-i-preserved : goal.loop-i-preserved
loop-i-preserved c =
    let xs = c.args.numbers.now in
    let i = c.loop-i.i in
    distinct_more xs i (length xs - (i + 1)) c.loop-i-test.true refl c.loop-i.invariant (λ k lt. c.has.ensures.absent c.if-has.false k lt)
