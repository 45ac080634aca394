use Rattle.std.proofs.Common.{◌≤◌, length, arith}
use Rattle.std.proofs.lemmas.Bool.Decides.{nat_tests}
use Rattle.xen_host.specs.LentWords.{lent_words}
use Rattle.xen_host.proofs.EngineLemmas.{stepping_at}
use Rattle.xen_host.proofs.LentWordLemmas.{lent_length}
use Rattle.xen_host.proofs.QueueLemmas.{not_few}
use Rattle.xen_host.proofs.queue.Queue.step.Goals as goal

pub say_next-requires-clause-busy : goal.say_next-requires-clause-busy
say_next-requires-clause-busy c = stepping_at c.args.self.now.engine.stage c.in_default.not-Ready c.in_default.not-Several

pub returns-in_default : goal.returns-in_default
returns-in_default c =
    let r = c.say_next in
    let q = c.args.self.now in
    let lent = lent_words c.args.words.now in
    let long : 1024 ≤ length lent = omega (arith, lent_length c.args.words.now, c.if-words-lt-PAGE_WORDS.false) in
    let some : 1 ≤ length c.args.ops.now = grind (arith, nat_tests) in
    record {
      words = r.ensures.words;
      counters = r.ensures.counters;
      share = r.ensures.share;
      stepped = λ enough. r.ensures.stepped;
      few = λ few. absurd (not_few q lent c.args.counters.now c.args.ops.now long (omega (arith, c.if-counters.false, c.counters.ensures)) some (stepping_at q.engine.stage c.in_default.not-Ready c.in_default.not-Several) few);
    }
