use Rattle.std.proofs.Common.{◌≡◌, ◌-◌, ◌<◌, ◌∙◌, ℕ, Option, inl, inr, length, sym, ap, subst, false, arith}
use Rattle.std.specs.Prelude.{slice_get}
use Rattle.std.proofs.lemmas.Bool.{cases_lt}
use Rattle.bpf_insn.specs.Register.{number}
use Rattle.bpf_insn.specs.declared.insn.Insn.{Insn}
use Rattle.bpf_insn.specs.declared.insn.Insn.TheVariants.{Alu}
use Rattle.bpf_insn.specs.declared.alu_op.AluOp.TheVariants.{Add}
use Rattle.bpf_insn.specs.declared.register.Register.TheVariants.{R0}
use Rattle.bpf_insn.specs.declared.operand.Operand.TheVariants.{Register}
use Rattle.bpf_verify.specs.Lost.{writes_by}
use Rattle.bpf_verify.proofs.FollowLemmas.{get_is}
use Rattle.bpf_verify.proofs.lost.last_write.Goals as goal

abbrev first : Insn
first = Alu Add false R0 (Register R0)

pub loop-at-preserved : goal.loop-at-preserved
loop-at-preserved c = λ q a b.
    let code = c.args.code.now in
    let k = number c.args.register in
    elim (cases_lt q c.loop-at.at) [
      | inl low ↦
          let same : q ≡ c.loop-at.at - 1 = omega arith in
          let inside : c.loop-at.at - 1 < length code = omega (arith, c.loop-at.auto.at, c.loop-at-test.true, c.min-end.ensures) in
          let no : writes_by (slice_get code (c.loop-at.at - 1)) k ≡ false = ap (λ (o : Option Insn). writes_by o k) (get_is code (c.loop-at.at - 1) first inside) ∙ (sym c.writes.ensures ∙ c.if-writes.false) in
          subst (λ (r : ℕ). writes_by (slice_get code r) k ≡ false) (sym same) no
      | inr high ↦ c.loop-at.invariant q high b
    ]
