use Rattle.std.proofs.Common.{◌≡◌, Option, None, subst}
use Rattle.std.specs.Prelude.{IfSome, IsSome}
use Rattle.xen_host.specs.LentWords.{lent_words}
use Rattle.xen_host.specs.Sharing.{TurnsShared}
use Rattle.xen_host.specs.declared.queue.Queue.{Queue}
use Rattle.xdp_host.specs.Stepped.{TurnsStepped}
use Rattle.xdp_host.proofs.turns_calls.laxonje_queue_turns_step.Goals as goal

pub returns-in-Some-clause-stepped : goal.returns-in-Some-clause-stepped
returns-in-Some-clause-stepped c =
    let s = c.turns_stepped in let words = lent_words c.args.words.now in
    subst (λ (o : Option Queue). IfSome o (λ q. q.share ≡ None →
    TurnsStepped q s.new.queue words (lent_words s.new.words) c.args.counters.now s.new.counters c.args.ops.now s.new.ops c.args.results.now s.new.results s.result)) c.in-Some.ensures.value s.ensures.stepped

pub returns-in-Some-clause-shared : goal.returns-in-Some-clause-shared
returns-in-Some-clause-shared c =
    let s = c.turns_stepped in let words = lent_words c.args.words.now in
    subst (λ (o : Option Queue). IfSome o (λ q. IsSome q.share →
    TurnsShared q s.new.queue words (lent_words s.new.words) c.args.ops.now s.new.ops c.args.results.now s.new.results s.result × (s.new.counters ≡ c.args.counters.now))) c.in-Some.ensures.value s.ensures.shared

pub returns-in-Some-clause-own : goal.returns-in-Some-clause-own
returns-in-Some-clause-own c =
    subst (λ (o : Option Queue). IfSome o (λ q. q.share ≡ None → c.turns_stepped.new.queue.share ≡ None)) c.in-Some.ensures.value c.turns_stepped.ensures.own
