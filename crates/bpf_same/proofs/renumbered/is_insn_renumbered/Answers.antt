use Rattle.std.proofs.Common.{◌≡◌, sym, ap, ◌∙◌, subst, refl, ℕ, Some}
use Rattle.std.specs.Prelude.{slice_get}
use Rattle.bpf_same.specs.declared.witness.Witness.{Witness}
use Rattle.bpf_same.specs.Renumbered.{IsRenumberedFrom}
use Rattle.bpf_same.proofs.renumbered.is_insn_renumbered.Goals as goal

some_is : {A : Type 0} {x y : A} → Some x ≡ Some y → x ≡ y
some_is e = cc

pub returns-in-Some : goal.returns-in-Some
returns-in-Some c = (
  λ t p at.
      let same : c.in-Some.witness ≡ at.witness = some_is (sym c.in-Some.is ∙ (c.witness_at.ensures ∙ at.here)) in
      let here : c.in-Some.witness.at ≡ p = ap (λ (m : Witness). m.at) same ∙ at.at in
      subst (λ (p : ℕ). IsRenumberedFrom c.args.witnesses.now (slice_get c.args.old.now p) c.args.insn c.args.slot p) here (c.is_renumbered_from.ensures.0 t),
  λ h. c.is_renumbered_from.ensures.1 (h c.in-Some.witness.at (record { witness = c.in-Some.witness; here = sym c.witness_at.ensures ∙ c.in-Some.is; at = refl })),
)
