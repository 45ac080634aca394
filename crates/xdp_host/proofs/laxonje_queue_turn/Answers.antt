use Rattle.std.proofs.Common.{◌≤◌, Option, length, subst}
use Rattle.std.specs.Prelude.{IfSome, IsSome}
use Rattle.xen_host.specs.Queues.{HasBegun, resting}
use Rattle.xen_host.specs.declared.queue.Queue.{Queue}
use Rattle.xdp_host.proofs.laxonje_queue_turn.Goals as goal

pub returns-in-Some-clause-begun : goal.returns-in-Some-clause-begun
returns-in-Some-clause-begun c =
    let t = c.turn in
    subst (λ (o : Option Queue). IfSome o (λ q. IsSome (resting q) → 1 ≤ length c.args.ops.now →
    HasBegun q t.new.self c.args.producer c.args.ops.now t.new.ops t.result)) c.in-Some.ensures.value t.ensures.begun
