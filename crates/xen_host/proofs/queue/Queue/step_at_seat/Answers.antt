use Rattle.std.proofs.Common.{◌∙◌, ◌≤◌, List, length, ap, sym, arith}
use Rattle.std.proofs.lemmas.Bool.Decides.{nat_tests}
use Rattle.bpf_maps.specs.Seats.{SeatView}
use Rattle.bpf_note.specs.declared.op.Op.{Op}
use Rattle.xen_host.specs.LentWords.{lent_words}
use Rattle.xen_host.proofs.EngineLemmas.{stepping_at}
use Rattle.xen_host.proofs.LentWordLemmas.{lent_length}
use Rattle.xen_host.proofs.QueueLemmas.{not_few_at_seat}
use Rattle.xen_host.proofs.queue.Queue.step_at_seat.Goals as goal

pub say_next_at_seat-requires-clause-busy : goal.say_next_at_seat-requires-clause-busy
say_next_at_seat-requires-clause-busy c = stepping_at c.args.self.now.engine.stage c.in_default.not-Ready c.in_default.not-Several

pub returns-in_default : goal.returns-in_default
returns-in_default c =
    let r = c.say_next_at_seat in
    let q = c.args.self.now in
    let before = c.args.seat.now in
    let lent = lent_words c.args.words.now in
    let long : 1024 ≤ length lent = omega (arith, lent_length c.args.words.now, c.if-words-lt-PAGE_WORDS.false) in
    let some : 1 ≤ length c.args.ops.now = grind (arith, nat_tests) in
    let grown = r.ensures.stepped.history in
    record {
      words = r.ensures.words;
      stepped = λ enough. r.ensures.stepped;
      few = λ few. absurd (not_few_at_seat q lent c.args.ops.now long some (stepping_at q.engine.stage c.in_default.not-Ready c.in_default.not-Several) few);
      wires = r.ensures.stepped.wires;
      share = r.ensures.share;
      same = grown ∙ ap (λ (l : List Op). record before { ops = l }) (sym (ap (λ (s : SeatView). s.ops) grown));
    }
