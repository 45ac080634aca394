use Rattle.std.proofs.Common.{rules, FitsSigned, w16, ◌≡◌, sym, ap, ◌∙◌, subst, arith, ℕ, pos, length}
use Rattle.std.proofs.lemmas.Int.{to_z-of_z}
use Rattle.bpf_insn.specs.Size.{size_bytes}
use Rattle.bpf_insn.specs.declared.insn.Insn.{Insn}
use Rattle.bpf_note.specs.Regions.{region}
use Rattle.bpf_flow.specs.Step.{address}
use Rattle.bpf_same.specs.Stepped.{AreShared}
use Rattle.bpf_same.proofs.access.is_shared.Goals as goal

pub returns-in-Ldx : goal.returns-in-Ldx
returns-in-Ldx c = λ t s d.
    let off : FitsSigned w16 c.in-Ldx.off = search rules in
    subst (λ (i : Insn). AreShared i c.args.low s) (sym c.in-Ldx.is) (simp to_z-of_z at (c.is_above.ensures t (size_bytes c.in-Ldx.size) s d))

pub returns-in-St : goal.returns-in-St
returns-in-St c = λ t s d.
    let off : FitsSigned w16 c.in-St.off = search rules in
    subst (λ (i : Insn). AreShared i c.args.low s) (sym c.in-St.is) (simp to_z-of_z at (c.is_above-in-St.ensures t (size_bytes c.in-St.size) s d))

pub returns-in-Stx : goal.returns-in-Stx
returns-in-Stx c = λ t s d.
    let off : FitsSigned w16 c.in-Stx.off = search rules in
    subst (λ (i : Insn). AreShared i c.args.low s) (sym c.in-Stx.is) (simp to_z-of_z at (c.is_above-in-Stx.ensures t (size_bytes c.in-Stx.size) s d))

pub returns-in-Call : goal.returns-in-Call
returns-in-Call c = λ t s d. subst (λ (i : Insn). AreShared i c.args.low s) (sym c.in-Call.is) (λ a j z e at.
    let fits = d.state.words 2 a e in
    let same : address a (pos 0) ≡ a = omega (arith, fits) in
    c.is_above-in-Call.ensures t z s d a j e (ap (λ (x : ℕ). region (length s.packet) s.shapes x z) same ∙ at))
