use Rattle.std.proofs.Common.{◌≤◌, Option, length, subst}
use Rattle.std.specs.Prelude.{IfSome, IsSome}
use Rattle.xen_host.specs.Queues.{HasBegun, resting}
use Rattle.xen_host.specs.Severals.{HasBegunTogether, MayTogether}
use Rattle.xen_host.specs.declared.queue.Queue.{Queue}
use Rattle.xdp_host.proofs.turns_calls.laxonje_queue_turns.Goals as goal

pub returns-in-Some-clause-together : goal.returns-in-Some-clause-together
returns-in-Some-clause-together c =
    let t = c.turns in
    subst (λ (o : Option Queue). IfSome o (λ q. MayTogether q c.args.producer c.args.most → 2 ≤ length c.args.ops.now →
    HasBegunTogether q t.new.self c.args.producer c.args.most c.args.ops.now t.new.ops t.result)) c.in-Some.ensures.value t.ensures.together

pub returns-in-Some-clause-alone : goal.returns-in-Some-clause-alone
returns-in-Some-clause-alone c =
    let t = c.turns in
    subst (λ (o : Option Queue). IfSome o (λ q. IsSome (resting q) → 1 ≤ length c.args.ops.now → (MayTogether q c.args.producer c.args.most → 2 ≤ length c.args.ops.now → ⊥) →
    HasBegun q t.new.self c.args.producer c.args.ops.now t.new.ops t.result)) c.in-Some.ensures.value t.ensures.alone
