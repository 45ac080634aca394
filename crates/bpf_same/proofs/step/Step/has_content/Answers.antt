use Rattle.bpf_note.specs.Parts.{facts}
use Rattle.bpf_same.proofs.ContentLemmas.{pulled_content, pulled_load}
use Rattle.bpf_same.proofs.step.Step.has_content.Goals as goal

pub returns-then-is_loaded : goal.returns-then-is_loaded
returns-then-is_loaded c = λ t.
    let s = c.args.self.now in
    pulled_load s.insn s.stutters s.low (facts s.after.now) s.before.now c.args.content.address c.args.content.number c.in-Some.address c.in-Some.ensures (c.is_loaded.ensures c.if-is_loaded.true)

pub returns : goal.returns
returns c = λ t.
    let s = c.args.self.now in
    pulled_content s.insn s.stutters s.low (facts s.after.now) s.before.now c.args.content.address c.args.content.number c.in-Some.address c.in-Some-number_after.there c.in-Some-pulled_back.here c.in-Some.ensures c.in-Some-number_after.ensures c.in-Some-pulled_back.ensures (c.is.ensures t)
