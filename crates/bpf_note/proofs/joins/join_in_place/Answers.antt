use Rattle.bpf_note.proofs.FactLemmas.{facts_joined}
use Rattle.bpf_note.proofs.joins.join_in_place.Goals as goal

pub returns-clause-ok : goal.returns-clause-ok
returns-clause-ok c =
    rw (← c.a.view_is, ← c.b.view_is) (facts_joined _ _ _ c.join_registers.ensures c.join_stacks.ensures c.in_ok-bounds.ensures)
