use Rattle.std.proofs.Common.{arith, ◌∷◌, [], ap, length, length-append}
use Rattle.thread_pair.specs.Resources.{IsFrontOf}
use Rattle.thread_pair.proofs.ReturnLemmas.{last_of}
use Rattle.thread_pair.proofs.starting.start_fronts.Goals as goal

pub loop-own-preserved : goal.loop-own-preserved
loop-own-preserved g c = (
  (last_of (IsFrontOf c.args.job.now.shared.now.layout.queues) _ _ _ c.in-Some.ensures.items c.loop-own.invariant.0).0,
  (let n = ap length c.in-Some.ensures.items in
      let m = length-append c.pop.new.self.items (c.in-Some.own ∷ []) in
      let b = c.loop-own.invariant.1 in
      let l = c.push_reserved.ensures.len in
      omega arith),
  (let b = c.loop-own.invariant.2 in let p = c.push_reserved.ensures.capacity in omega arith),
)
