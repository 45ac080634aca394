use Rattle.std.proofs.Common.{subst, ℕ, false}
use Rattle.bpf_note.specs.Parts.{facts}
use Rattle.bpf_same.specs.Candidates.{candidate_of}
use Rattle.bpf_same.specs.Simulated.{Establishes}
use Rattle.bpf_same.proofs.simulation.Simulation.is_shared_step.Goals as goal

pub returns-then-is_copied : goal.returns-then-is_copied
returns-then-is_copied c = λ t.
    let b = c.args.before.now in
    record {
      copied = c.is_copied.ensures c.if-is_copied.true;
      establishes = subst (λ (p : ℕ). Establishes (candidate_of c.args.self.now) b.insn false b.relation.now (facts c.args.there.now.note.value) p c.args.there.now.pc) c.next_slot.ensures (c.establishes.ensures t);
    }
