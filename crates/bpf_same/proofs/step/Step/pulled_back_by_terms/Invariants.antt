use Rattle.std.proofs.Common.{◌≤◌}
use Rattle.bpf_note.specs.Parts.{facts}
use Rattle.bpf_same.specs.Stepped.{IsPart}
use Rattle.bpf_same.proofs.step.Step.pulled_back_by_terms.Given as goal

abbrev pub invariant-loop-term : goal.invariant-loop-term
invariant-loop-term l = (l.term ≤ 64) × IsPart l.self.insn l.self.stutters l.self.low (facts l.self.after.now) l.self.before.now l.form l.term l.all
