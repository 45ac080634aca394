use Rattle.std.proofs.Common.{sym, ◌∙◌}
use Rattle.bpf_note.specs.Parts.{facts}
use Rattle.bpf_same.proofs.SilentLemmas.{silent_if}
use Rattle.bpf_same.proofs.simulation.Simulation.silent_step.Goals as goal

pub returns-in-Some : goal.returns-in-Some
returns-in-Some c =
    let s = c.args.self.now in
    silent_if s.old.now c.args.relation.now s.low (facts c.args.note.now) c.args.at c.in-Some.insn c.silent_target.result (sym c.insn_at.ensures ∙ c.in-Some.is) (c.silent_target.ensures s.low)
