use Rattle.bpf_note.proofs.FactLemmas.{facts_entry}
use Rattle.bpf_note.proofs.note.Note.entry.Goals as goal

pub returns : goal.returns
returns c = facts_entry _ _ _ c.entry_registers.ensures c.no_slots.ensures c.none.ensures
