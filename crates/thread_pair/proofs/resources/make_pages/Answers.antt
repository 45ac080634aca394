use Rattle.std.proofs.Common.{◌<◌, All, sym, subst, arith}
use Rattle.std.proofs.lemmas.List.Elements.{All-push}
use Rattle.thread_pair.specs.declared.resources.FrontPages.{FrontPages}
use Rattle.thread_pair.proofs.resources.make_pages.Goals as goal

pub invariant_of-push : goal.invariant_of-push
invariant_of-push c = record { tx_granted = c.in_ok-tx.ensures; rx_granted = c.in_ok-rx.ensures }

pub loop-queue-preserved : goal.loop-queue-preserved
loop-queue-preserved c = (
  (let l = c.in_ok-push.ensures.len in let i = c.loop-queue.invariant.0 in omega arith),
  subst (All (λ (p : FrontPages). p.queue < c.args.count)) (sym c.in_ok-push.ensures.items)
      (All-push (λ (p : FrontPages). p.queue < c.args.count) c.loop-queue.pages.items _ c.loop-queue.invariant.1 (let t = c.loop-queue-test.true in omega arith)),
)
