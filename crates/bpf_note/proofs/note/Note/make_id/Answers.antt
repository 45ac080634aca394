use Rattle.std.proofs.Common.{refl, None}
use Rattle.bpf_note.proofs.FactLemmas.{facts_id}
use Rattle.bpf_note.proofs.note.Note.make_id.Goals as goal

pub returns-clause-ok : goal.returns-clause-ok
returns-clause-ok c =
    rw (← c.self.view_is) (facts_id _ _ _ _ c.self.inside.bounds _ (record { id = c.args.id; top = c.args.top; safe = None }) c.replaced_registers-self-inside.ensures c.replaced_slots-self-inside.ensures c.in_ok-set.ensures.ok refl)
