use Rattle.bpf_note.specs.Parts.{facts}
use Rattle.bpf_same.proofs.PreserveLemmas.{old_noted_if}
use Rattle.bpf_same.proofs.step.Step.old_written.Goals as goal

pub returns-in-None : goal.returns-in-None
returns-in-None c =
    let s = c.args.self.now in
    old_noted_if s.insn s.stutters s.low (facts s.after.now) s.before.now c.args.register c.new_written.result c.requires.copied c.requires.altered c.requires.small c.new_written.ensures
