use Rattle.std.specs.Prelude.{IfSome}
use Rattle.bpf_note.specs.Parts.{facts}
use Rattle.bpf_same.specs.Stepped.{LiesBefore}
use Rattle.bpf_same.proofs.step.Step.range_by_sums.Given as goal

abbrev pub invariant-loop-register : goal.invariant-loop-register
invariant-loop-register l = IfSome l.found (λ r. LiesBefore l.self.insn l.self.stutters l.self.low (facts l.self.after.now) l.self.before.now l.form r.low r.high)
