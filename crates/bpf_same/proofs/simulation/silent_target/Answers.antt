use Rattle.std.proofs.Common.{rules, ◌≡◌, subst, Bool}
use Rattle.bpf_insn.specs.declared.insn.Insn.TheVariants.{Jump}
use Rattle.bpf_note.specs.Parts.{facts}
use Rattle.bpf_flow.specs.Step.{target}
use Rattle.bpf_same.specs.Decided.{IsDecided}
use Rattle.bpf_same.proofs.SilentLemmas.{taken_if, left_if}
use Rattle.bpf_same.proofs.simulation.silent_target.Goals as goal

pub returns-in-Some-true : goal.returns-in-Some-true
returns-in-Some-true c = λ low.
    let j = c.in-Jump in
    let at : c.jump_target-in-Some-true.result ≡ target c.args.at j.off = search rules in
    taken_if c.args.insn j.cond j.wide j.dst j.src j.off c.args.relation.now low (facts c.args.note.now) c.args.at c.jump_target-in-Some-true.result j.is (c.reads_alike.ensures c.if-reads_alike.true)
    (subst (λ (b : Bool). IsDecided (Jump j.cond j.wide j.dst j.src j.off) c.args.relation.now (facts c.args.note.now) b) c.in-Some-true.field-0-test c.in-Some-true.ensures) at

pub returns-in-Some-false : goal.returns-in-Some-false
returns-in-Some-false c = λ low.
    let j = c.in-Jump in
    left_if c.args.insn j.cond j.wide j.dst j.src j.off c.args.relation.now low (facts c.args.note.now) c.args.at j.is (c.reads_alike.ensures c.if-reads_alike.true)
    (subst (λ (b : Bool). IsDecided (Jump j.cond j.wide j.dst j.src j.off) c.args.relation.now (facts c.args.note.now) b) c.in-Some-false.field-0-test c.in-Some-false.ensures)
