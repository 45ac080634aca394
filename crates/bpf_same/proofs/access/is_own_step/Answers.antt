use Rattle.std.proofs.Common.{rules, FitsSigned, w16, sym, subst}
use Rattle.std.proofs.lemmas.Int.{to_z-of_z}
use Rattle.bpf_insn.specs.declared.insn.Insn.{Insn}
use Rattle.bpf_note.specs.Parts.{facts}
use Rattle.bpf_same.specs.Stepped.{IsOwnStep}
use Rattle.bpf_same.proofs.access.is_own_step.Goals as goal

pub returns-in-Ldx : goal.returns-in-Ldx
returns-in-Ldx c = λ t.
    let off : FitsSigned w16 c.in-Ldx.off = search rules in
    subst (λ (i : Insn). IsOwnStep i c.args.low (facts c.args.note.now)) (sym c.in-Ldx.is) (simp to_z-of_z at (c.loads_no_counter.ensures t))
