use Rattle.std.proofs.Common.{arith}
use Rattle.xen_page.proofs.WordLemmas.{run_back}
use Rattle.xen_page.proofs.word_bus.WordBusBus.read_run.Goals as goal

pub returns-clause-read : goal.returns-clause-read
returns-clause-read g c =
    rw (← c.self.view_is) (run_back g.W.Words.log g.W.Words.step_gives c.args.at c.place_of.result c.self.inside.words c.load_run.new.room c.load_run.new.words
    c.place_of.ensures (omega (arith, c.requires.within, c.load_run.ensures.length)) c.load_run.ensures.read)
