use Rattle.bpf_note.specs.Parts.{facts}
use Rattle.bpf_same.proofs.PreserveLemmas.{preserves_new_by}
use Rattle.bpf_same.proofs.step.Step.preserves_new.Goals as goal

pub returns : goal.returns
returns c = λ t.
    let s = c.args.self.now in
    preserves_new_by s.insn s.stutters s.low (facts s.after.now) s.before.now c.args.term c.args.form c.in-Some.there c.in-Some-pulled_back.here c.in-Some.ensures c.in-Some-pulled_back.ensures (c.is.ensures t)
