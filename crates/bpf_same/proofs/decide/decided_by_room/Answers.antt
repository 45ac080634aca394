use Rattle.bpf_note.specs.Parts.{facts}
use Rattle.bpf_same.proofs.DecideLemmas.{wide_decides}
use Rattle.bpf_same.proofs.decide.decided_by_room.Goals as goal

pub returns-then-wide : goal.returns-then-wide
returns-then-wide c =
    wide_decides (facts c.args.note.now) c.args.relation.now c.args.insn c.in-Jump.cond c.in-Jump.wide c.in-Jump.dst c.in-Jump.src c.in-Jump.off c.decided_between.result c.in-Jump.is c.if-wide.true (c.decided_between.ensures c.in-Jump.off)
