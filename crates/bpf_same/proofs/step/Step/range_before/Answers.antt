use Rattle.bpf_note.specs.Parts.{facts}
use Rattle.bpf_same.proofs.BoundLemmas.{narrowed_before}
use Rattle.bpf_same.proofs.step.Step.range_before.Goals as goal

pub returns : goal.returns
returns c =
    let s = c.args.self.now in
    let m = facts s.after.now in
    narrowed_before s.insn s.stutters s.low m s.before.now c.args.form c.narrowed-kept.result c.range_by_note.result c.narrowed.result c.narrowed.ensures
    (narrowed_before s.insn s.stutters s.low m s.before.now c.args.form c.range_by_bounds.result c.range_by_sums.result c.narrowed-kept.result c.narrowed-kept.ensures c.range_by_bounds.ensures c.range_by_sums.ensures) c.range_by_note.ensures
