use Rattle.std.proofs.Common.{◌∙◌, ap, sym}
use Rattle.std.proofs.lemmas.Slice.Eq.{slice_eq-Decides}
use Rattle.bpf_verify.specs.Consistent.{Accepted}
use Rattle.xdp_program.proofs.EqualLemmas.{shapes_equal}
use Rattle.xdp_program.proofs.SpelledLemmas.{false_true}
use Rattle.xdp_program.proofs.program.Program.is_of.Goals as goal

pub returns-then-eq : goal.returns-then-eq
returns-then-eq c =
    let is = c.verified-program.ensures in
    let equal = (slice_eq-Decides shapes_equal c.shapes.result.now c.as_slice.result.now c.eq.result c.eq.ensures).0 c.if-eq.true in
    let shapes = ap (λ (p : Accepted). p.shapes) (sym is) ∙ (sym c.shapes.ensures.same ∙ (equal ∙ c.as_slice.ensures.value)) in
    let code = c.insns.ensures.same ∙ ap (λ (p : Accepted). p.code) is in
    let spelled = rw (code, c.as_slice-then-eq.ensures.value) at c.spells.ensures in
    (λ t. (spelled.0 t, shapes), λ h. spelled.1 h.0)

pub returns-else-eq : goal.returns-else-eq
returns-else-eq c =
    let is = c.verified-program.ensures in
    let decides = slice_eq-Decides shapes_equal c.shapes.result.now c.as_slice.result.now c.eq.result c.eq.ensures in (
      λ t. absurd (false_true (sym c.if-eq.false ∙ t)),
      λ h. decides.1 (c.shapes.ensures.same ∙ (ap (λ (p : Accepted). p.shapes) is ∙ (h.1 ∙ sym c.as_slice.ensures.value))),
    )
