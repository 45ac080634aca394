use Rattle.bpf_note.specs.Parts.{facts}
use Rattle.bpf_same.proofs.BoundLemmas.{before_if}
use Rattle.bpf_same.proofs.step.Step.range_by_bounds.Goals as goal

pub returns : goal.returns
returns c = let s = c.args.self.now in before_if s.insn s.stutters s.low (facts s.after.now) s.before.now c.args.form c.bounded.result c.bounded.ensures
