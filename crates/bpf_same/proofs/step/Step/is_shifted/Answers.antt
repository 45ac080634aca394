use Rattle.bpf_note.specs.Parts.{facts}
use Rattle.bpf_same.proofs.ShiftedLemmas.{shifted_by}
use Rattle.bpf_same.proofs.step.Step.is_shifted.Goals as goal

pub returns-then-is_shift : goal.returns-then-is_shift
returns-then-is_shift c = λ t.
    let s = c.args.self.now in
    shifted_by s.insn s.stutters s.low (facts s.after.now) s.before.now c.args.register c.args.form (c.is_shift.ensures c.if-is_shift.true) (c.is_small.ensures t)
