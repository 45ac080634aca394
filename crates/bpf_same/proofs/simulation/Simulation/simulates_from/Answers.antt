use Rattle.std.proofs.Common.{sym, ◌∙◌}
use Rattle.bpf_note.specs.Parts.{facts}
use Rattle.bpf_same.specs.Candidates.{candidate_of}
use Rattle.bpf_same.proofs.SilentLemmas.{meet}
use Rattle.bpf_same.proofs.simulation.Simulation.simulates_from.Goals as goal

pub returns-then-reaches_silently : goal.returns-then-reaches_silently
returns-then-reaches_silently c = λ t.
    meet (candidate_of c.args.self.now) (facts c.args.note.now) c.args.from c.args.slot c.in-Some.witness c.in-Some-relation_at.relation (sym c.witness_at.ensures ∙ c.in-Some.is) (sym c.relation_at.ensures ∙ c.in-Some-relation_at.is)
    (c.reaches_silently.ensures c.if-reaches_silently.true) (c.is_entailed.ensures t)
