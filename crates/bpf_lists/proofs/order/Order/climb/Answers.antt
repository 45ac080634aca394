use Rattle.std.proofs.Common.{arith, ◌-◌, not, ap}
use Rattle.bpf_lists.proofs.OrderLemmas.{climb_step}
use Rattle.bpf_lists.proofs.order.Order.climb.Goals as goal

pub loop-above-preserved : goal.loop-above-preserved
loop-above-preserved c =
    let inv = c.loop-above.invariant in
    let some = c.loop-above-test.true in
    let below = c.requires.nested.below (c.loop-above.above - 1) (omega (arith, c.requires.from)) in
    record {
      most = omega arith;
      reaches = climb_step c.args.self.now c.args.parents.now c.args.key.now c.args.from c.loop-above.above c.requires.nested some inv.most c.requires.from inv.reaches
          (λ yes. let is = c.covers.ensures.1 yes in let no = c.if-not-covers.true in let other = ap not is in cc);
    }
