use Rattle.std.proofs.Common.{◌≡◌, ◌≤◌, ◌-◌, length}
use Rattle.xen_page.specs.Run.{HasRead}
use Rattle.xen_page.specs.Numbered.{place_at}
use Rattle.xen_page.proofs.word_bus.load_run.Given as goal

abbrev pub invariant-loop-number : goal.invariant-loop-number
invariant-loop-number g l =
    record {
      read : HasRead g.W.Words.log g.W.Words.step_gives (place_at l.first) l.number l.fn.words l.fn.room l.words l.room;
      most : l.number ≤ l.count;
      size : g.W.Words.size l.words ≡ g.W.Words.size l.fn.words;
      length : length l.room ≡ length l.fn.room;
    }

abbrev pub decreases-loop-number : goal.decreases-loop-number
decreases-loop-number g l = l.count - l.number

abbrev pub invariant-loop-number-2 : goal.invariant-loop-number-2
invariant-loop-number-2 g l =
    record {
      read : HasRead g.W.Words.log g.W.Words.step_gives (place_at l.first) l.number l.fn.words l.fn.room l.words l.room;
      size : g.W.Words.size l.words ≡ g.W.Words.size l.fn.words;
      length : length l.room ≡ length l.fn.room;
    }
