use Rattle.std.proofs.Common.{◌≡◌, Option, None, subst}
use Rattle.std.specs.Prelude.{IfSome, IsSome}
use Rattle.xen_host.specs.LentWords.{lent_words}
use Rattle.xen_host.specs.Queues.{AreEnough, AreFew, HasStepped, IsNothing}
use Rattle.xen_host.specs.Sharing.{StepsShared}
use Rattle.xen_host.specs.declared.queue.Queue.{Queue}
use Rattle.xdp_host.proofs.laxonje_queue_step.Goals as goal

pub returns-in-Some-clause-few : goal.returns-in-Some-clause-few
returns-in-Some-clause-few c =
    let s = c.stepped in let words = lent_words c.args.words.now in let counters = c.args.counters.now in let ops = c.args.ops.now in
    subst (λ (o : Option Queue). IfSome o (λ q. q.share ≡ None → AreFew q words counters ops →
    IsNothing q s.new.queue words (lent_words s.new.words) counters s.new.counters ops s.new.ops s.result)) c.in-Some.ensures.value s.ensures.few

pub returns-in-Some-clause-stepped : goal.returns-in-Some-clause-stepped
returns-in-Some-clause-stepped c =
    let s = c.stepped in let words = lent_words c.args.words.now in let counters = c.args.counters.now in let ops = c.args.ops.now in
    subst (λ (o : Option Queue). IfSome o (λ q. q.share ≡ None → AreEnough q words counters ops →
    HasStepped q s.new.queue words (lent_words s.new.words) counters s.new.counters ops s.new.ops s.result)) c.in-Some.ensures.value s.ensures.stepped

pub returns-in-Some-clause-shared : goal.returns-in-Some-clause-shared
returns-in-Some-clause-shared c =
    let s = c.stepped in let words = lent_words c.args.words.now in let ops = c.args.ops.now in
    subst (λ (o : Option Queue). IfSome o (λ q. IsSome q.share →
    StepsShared q s.new.queue words (lent_words s.new.words) ops s.new.ops s.result × (s.new.counters ≡ c.args.counters.now))) c.in-Some.ensures.value s.ensures.shared

pub returns-in-Some-clause-own : goal.returns-in-Some-clause-own
returns-in-Some-clause-own c =
    subst (λ (o : Option Queue). IfSome o (λ q. q.share ≡ None → c.stepped.new.queue.share ≡ None)) c.in-Some.ensures.value c.stepped.ensures.own
