use Rattle.std.proofs.Common.{Some}
use Rattle.bpf_note.specs.Parts.{facts}
use Rattle.bpf_same.proofs.ContentLemmas.{added_stand_if, beside_stands}
use Rattle.bpf_same.proofs.step.Step.number_added.Goals as goal

pub returns-in-Some : goal.returns-in-Some
returns-in-Some c =
    let s = c.args.self.now in
    added_stand_if s.insn s.stutters s.low (facts s.after.now) s.before.now c.args.address c.args.number c.args.addition.address c.args.addition.by (Some c.in-Some.sum) c.requires.adds c.requires.stands c.in-Some.ensures

pub returns-then-is_elsewhere : goal.returns-then-is_elsewhere
returns-then-is_elsewhere c =
    let s = c.args.self.now in
    beside_stands s.insn s.stutters s.low (facts s.after.now) s.before.now c.args.address c.args.number c.args.addition.address c.args.addition.by c.requires.adds c.requires.stands (c.is_elsewhere.ensures c.if-is_elsewhere.true)
