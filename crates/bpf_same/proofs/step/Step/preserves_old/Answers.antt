use Rattle.bpf_note.specs.Parts.{facts}
use Rattle.bpf_same.proofs.PreserveLemmas.{preserves_by}
use Rattle.bpf_same.proofs.step.Step.preserves_old.Goals as goal

pub returns : goal.returns
returns c = λ t.
    let s = c.args.self.now in
    preserves_by s.insn s.stutters s.low (facts s.after.now) s.before.now c.args.register c.args.form c.in-Some.there c.in-Some-pulled_back.here c.in-Some.ensures c.in-Some-pulled_back.ensures (c.is.ensures t)

pub returns-then-is_alike : goal.returns-then-is_alike
returns-then-is_alike c = λ t f g f' g' stepped h. c.is_alike.ensures c.if-is_alike.true f g f' g' stepped
