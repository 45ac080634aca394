use Rattle.std.proofs.Common.{subst}
use Rattle.bpf_note.specs.Parts.{Noted, facts}
use Rattle.bpf_same.specs.Candidates.{candidate_of}
use Rattle.bpf_same.specs.Simulated.{SimulatesFrom}
use Rattle.bpf_same.proofs.simulation.Simulation.establishes_silently.Goals as goal

pub returns-then-preserves : goal.returns-then-preserves
returns-then-preserves c = λ t.
    let k = c.preserves.ensures c.if-preserves.true in
    record {
      next = k.next;
      preserves = k.preserves;
      contents = k.contents;
      meets = subst (λ (n : Noted). SimulatesFrom (candidate_of c.args.self.now) (facts n) c.args.from c.args.there.now.pc) c.deref.ensures (c.simulates_from.ensures t) k.next k.here;
    }
