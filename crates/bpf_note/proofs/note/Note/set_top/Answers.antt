use Rattle.bpf_note.proofs.FactLemmas.{on_ok, facts_top}
use Rattle.bpf_note.proofs.note.Note.set_top.Goals as goal

pub returns-clause-ok : goal.returns-clause-ok
returns-clause-ok c =
    rw (← c.self.view_is) (on_ok c.set.result (λ s. facts_top c.self.inside.regs c.self.inside.slots c.self.inside.bounds c.set.new.self _ s c.safe-safe.ensures) c.set.ensures.ok)
