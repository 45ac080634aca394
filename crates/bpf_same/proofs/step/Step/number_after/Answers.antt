use Rattle.bpf_note.specs.Parts.{facts}
use Rattle.bpf_same.proofs.ContentLemmas.{unchanged_stand}
use Rattle.bpf_same.proofs.step.Step.number_after.Goals as goal

pub returns-in-None : goal.returns-in-None
returns-in-None c =
    let s = c.args.self.now in
    unchanged_stand s.insn s.stutters s.low (facts s.after.now) s.before.now c.args.address c.in-Some.number (c.addition.ensures.none c.in-None.is) c.in-Some.ensures
