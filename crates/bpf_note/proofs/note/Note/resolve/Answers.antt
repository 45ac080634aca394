use Rattle.bpf_note.specs.Facts.{resolved}
use Rattle.bpf_note.proofs.FactLemmas.{facts_each}
use Rattle.bpf_note.proofs.note.Note.resolve.Goals as goal

pub returns : goal.returns
returns c = rw (← c.self.view_is) (facts_each (resolved c.args.id c.args.value) _ _ _ _ _ c.replaced_registers-self-inside.ensures c.replaced_slots-self-inside.ensures)
