use Rattle.bpf_note.specs.Parts.{facts}
use Rattle.bpf_same.proofs.BoundLemmas.{narrowed_before}
use Rattle.bpf_same.proofs.step.Step.range_by_note.Goals as goal

pub loop-register-preserved : goal.loop-register-preserved
loop-register-preserved c =
    let s = c.args.self.now in
    narrowed_before s.insn s.stutters s.low (facts s.after.now) s.before.now c.args.form c.loop-register.found c.range_by_register.result c.narrowed-found.result c.narrowed-found.ensures c.loop-register.invariant c.range_by_register.ensures
