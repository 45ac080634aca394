use Rattle.bpf_note.specs.Parts.{facts}
use Rattle.bpf_same.proofs.PreserveLemmas.{more_if, none_more}
use Rattle.bpf_same.proofs.step.Step.with_term.Goals as goal

pub returns-in-Some : goal.returns-in-Some
returns-in-Some c =
    let s = c.args.self.now in
    more_if s.insn s.stutters s.low (facts s.after.now) s.before.now c.args.form c.args.term c.args.all c.in-Some.part c.plus.result (c.has.ensures.held c.if-has.true) c.in-Some.ensures c.plus.ensures

pub returns-else-has : goal.returns-else-has
returns-else-has c =
    let s = c.args.self.now in
    none_more s.insn s.stutters s.low (facts s.after.now) s.before.now c.args.form c.args.term c.args.all (c.has.ensures.lacking c.if-has.false)
