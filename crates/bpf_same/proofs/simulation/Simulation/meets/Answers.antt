use Rattle.std.proofs.Common.{sym, ◌∙◌}
use Rattle.bpf_note.specs.Parts.{facts}
use Rattle.bpf_same.specs.Candidates.{candidate_of}
use Rattle.bpf_same.proofs.CaughtLemmas.{caught}
use Rattle.bpf_same.proofs.simulation.Simulation.meets.Goals as goal

pub returns-then-entails : goal.returns-then-entails
returns-then-entails c = λ t.
    let s = c.args.self.now in
    caught (candidate_of s) (facts c.args.note.now) c.args.from.now.relation c.args.from.now.at c.args.slot c.in-Some.witness c.in-Some-caught_up.relation c.in-Some-relation_at.next (sym c.witness_at.ensures ∙ c.in-Some.is) (sym c.relation_at.ensures ∙ c.in-Some-relation_at.is)
    (c.in-Some-caught_up.ensures s.alone s.low) (c.entails.ensures c.if-entails.true) (c.is_entailed.ensures t)
