use Rattle.std.proofs.Common.{arith, rules, ◌∷◌, ◌++◌, [], All, ap, length, length-append, subst, sym}
use Rattle.std.proofs.lemmas.List.Elements.{All-push}
use Rattle.thread_pair.specs.Resources.{IsFrontOf}
use Rattle.thread_pair.proofs.resources.make_fronts.Goals as goal

pub loop-parker-preserved : goal.loop-parker-preserved
loop-parker-preserved c =
    let before = c.loop-parker.invariant in
    let queues = c.args.shared.now.layout.queues in
    let n = ap length c.in-Some.ensures.items in
    let m = length-append c.pop.new.self.items (c.in-Some.parker ∷ []) in (
      (let b = before.0 in omega arith),
      before.1,
      subst (All (IsFrontOf queues)) (sym c.in_ok-push.ensures.items)
          (All-push (IsFrontOf queues) c.loop-parker.fronts.items _ before.2 (record { queue = search rules; frames = c.in_ok-front.ensures.frames })),
      (let b = before.3 in let l = c.in_ok-push.ensures.len in omega arith),
    )
