use Rattle.std.proofs.Common.{rules, ◌≡◌, ◌+◌, Bool, false, ap, sym, ◌∙◌, FitsSigned, w16}
use Rattle.std.proofs.lemmas.Int.{to_z-of_z}
use Rattle.bpf_note.specs.declared.val.Val.{Val}
use Rattle.std.proofs.lemmas.Result.{err_from_is_err_and}
use Rattle.std.specs.Prelude.{Err}
use Rattle.bpf_insn.specs.Register.{number}
use Rattle.bpf_insn.specs.declared.refusal.Cause.TheVariants.{Unset, FramePointer}
use Rattle.bpf_note.specs.Facts.{is_unset, with_reg}
use Rattle.bpf_note.specs.Parts.{facts}
use Rattle.bpf_flow.specs.Edges.{goes_to}
use Rattle.bpf_flow.specs.Memory.{load_value}
use Rattle.bpf_flow.specs.Step.{is_frame}
use Rattle.bpf_flow.proofs.AnswerLemmas.{third_refusal}
use Rattle.bpf_flow.proofs.point.Point.ldx.Goals as goal

pub returns-in_err-value-clause-gives : goal.returns-in_err-value-clause-gives
returns-in_err-value-clause-gives c =
    let p = err_from_is_err_and c.from_residual.result c.from_residual.ensures.1 in
    let n = facts c.args.self.now.note.now in
    let k = number c.args.dst in
    let set : is_unset ((facts c.args.self.now.note.now).reg (number c.args.src)) ≡ false = search rules in
    let frame : is_frame (number c.args.dst) ≡ false = search rules in
    let fits : FitsSigned w16 c.args.off = c.ranges.off in
    let pointer : c.register-pointer.result ≡ (facts c.args.self.now.note.now).reg (number c.args.src) =
    c.register-pointer.ensures.value ∙ ap (facts c.args.self.now.note.now).reg c.number.ensures.number in
    let loaded : Err c.in_err-value.field-0.0 ≡ load_value (facts c.args.self.now.note.now) c.args.self.now.shapes.now c.register-pointer.result c.args.off c.args.signed c.args.size = simp to_z-of_z at c.in_err-value.ensures in
    let refused : load_value (facts c.args.self.now.note.now) c.args.self.now.shapes.now ((facts c.args.self.now.note.now).reg (number c.args.src)) c.args.off c.args.signed c.args.size ≡ Err c.in_err-value.field-0.0 =
    ap (λ (v : Val). load_value (facts c.args.self.now.note.now) c.args.self.now.shapes.now v c.args.off c.args.signed c.args.size) (sym pointer) ∙ sym loaded in
    rw (p.1, p.2) (third_refusal (is_unset (n.reg (number c.args.src))) (is_frame k) Unset FramePointer c.in_err-value.field-0.0
    (load_value n c.args.self.now.shapes.now (n.reg (number c.args.src)) c.args.off c.args.signed c.args.size) (λ v. goes_to (c.args.self.now.pc + 1) (with_reg n k v)) set frame refused)
