use Rattle.std.proofs.Common.{◌≡◌, sym, ◌∙◌, subst, Some}
use Rattle.std.specs.Prelude.{slice_get}
use Rattle.bpf_insn.specs.declared.insn.Insn.{Insn}
use Rattle.bpf_same.specs.Renumbered.{IsRenumberedFrom}
use Rattle.bpf_same.proofs.renumbered.is_slot_renumbered.Goals as goal

some_is : {A : Type 0} {x y : A} → Some x ≡ Some y → x ≡ y
some_is e = cc

pub returns-in-Some : goal.returns-in-Some
returns-in-Some c = (
  λ t p i e at.
      let same : c.in-Some.insn ≡ i = some_is (sym c.in-Some.is ∙ (c.insn_at.ensures ∙ e)) in
      subst (λ (i : Insn). IsRenumberedFrom c.args.witnesses.now (slice_get c.args.old.now p) i c.args.slot p) same (c.is_insn_renumbered.ensures.0 t p at),
  λ h. c.is_insn_renumbered.ensures.1 (λ p at. h p c.in-Some.insn (sym c.insn_at.ensures ∙ c.in-Some.is) at),
)
