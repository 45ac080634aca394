use Rattle.bpf_note.proofs.FactLemmas.{on_ok, facts_safe}
use Rattle.bpf_note.proofs.note.Note.set_safe.Goals as goal

pub returns-clause-ok : goal.returns-clause-ok
returns-clause-ok c =
    rw (← c.self.view_is) (on_ok c.set.result (λ s. facts_safe c.self.inside.regs c.self.inside.slots c.self.inside.bounds c.set.new.self _ s c.top-top.ensures) c.set.ensures.ok)
