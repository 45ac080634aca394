use Rattle.std.proofs.Common.{arith}
use Rattle.xdp_program.proofs.ListLemmas.{below_more}
use Rattle.xdp_program.proofs.lists.are_listed.Goals as goal

pub loop-list-preserved : goal.loop-list-preserved
loop-list-preserved c =
    below_more c.args.lists.now c.loop-list.list-index c.list-item.result c.loop-list-test.true c.list-item.is c.loop-list.invariant c.is_listed.ensures

pub returns : goal.returns
returns c k list less there = c.loop-list.invariant k list (omega (arith, less, c.loop-list-test.false)) there
