use Rattle.std.proofs.Common.{rules, FitsSigned, w16, w32, subst, sym}
use Rattle.std.proofs.lemmas.Int.{to_z-of_z}
use Rattle.bpf_insn.specs.declared.insn.Insn.{Insn}
use Rattle.bpf_note.specs.Parts.{facts}
use Rattle.bpf_flow.specs.Rule.{after_of}
use Rattle.bpf_flow.specs.Effect.{Decides}
use Rattle.bpf_flow.proofs.point.Point.decide_access.Goals as goal

pub returns-in-St-clause-gives : goal.returns-in-St-clause-gives
returns-in-St-clause-gives c =
    let off : FitsSigned w16 c.in-St.off = search rules in
    let imm : FitsSigned w32 c.in-St.imm = search rules in
    subst (λ (i : Insn). Decides c.st.result c.args.self.now.pc (facts c.args.self.now.note.now) (after_of i c.args.self.now.pc (facts c.args.self.now.note.now) c.args.self.now.shapes.now)) (sym c.in-St.is) (simp to_z-of_z at c.st.ensures.gives)

pub returns-in-Stx-clause-gives : goal.returns-in-Stx-clause-gives
returns-in-Stx-clause-gives c =
    let off : FitsSigned w16 c.in-Stx.off = search rules in
    subst (λ (i : Insn). Decides c.stx.result c.args.self.now.pc (facts c.args.self.now.note.now) (after_of i c.args.self.now.pc (facts c.args.self.now.note.now) c.args.self.now.shapes.now)) (sym c.in-Stx.is) (simp to_z-of_z at c.stx.ensures.gives)

pub returns-in-Ldx-clause-gives : goal.returns-in-Ldx-clause-gives
returns-in-Ldx-clause-gives c =
    let off : FitsSigned w16 c.in-Ldx.off = search rules in
    subst (λ (i : Insn). Decides c.ldx.result c.args.self.now.pc (facts c.args.self.now.note.now) (after_of i c.args.self.now.pc (facts c.args.self.now.note.now) c.args.self.now.shapes.now)) (sym c.in-Ldx.is) (simp to_z-of_z at c.ldx.ensures.gives)
