use Rattle.std.proofs.Common.{◌≡◌, ◌+◌, length}
use Rattle.xen_page.specs.Run.{ReadsFurther}
use Rattle.xen_page.specs.Numbered.{place_at}
use Rattle.xen_page.proofs.word_bus.load_eight.Given as goal

abbrev pub invariant-loop-step : goal.invariant-loop-step
invariant-loop-step g l =
    record {
      read : ReadsFurther g.W.Words.log g.W.Words.step_gives (place_at l.first) l.number l.fn.words l.fn.room (l.number + l.step) l.words l.room;
      size : g.W.Words.size l.words ≡ g.W.Words.size l.fn.words;
      length : length l.room ≡ length l.fn.room;
    }
