use Rattle.std.proofs.Common.{◌≡◌, length, arith, drop}
use Rattle.xen_page.specs.Owned.{domains_of}
use Rattle.xen_page.proofs.ExtentLemmas.{none_left}
use Rattle.xen_page.proofs.extents.count.Goals as goal

pub returns : goal.returns
returns c =
    let none : length (domains_of (drop c.loop-extent.extent-index c.args.extents.now)) ≡ 0 = none_left c.args.extents.now c.loop-extent.extent-index (omega arith) in
    (omega (arith, c.loop-extent.invariant.0, c.loop-extent.invariant.1, none), omega (arith, c.loop-extent.invariant.1, none))
