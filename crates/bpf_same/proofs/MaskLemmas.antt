-- A mask that leaves a number as it is.
use Rattle.std.proofs.Common.{ℕ, ◌-◌, ◌*◌, ◌/◌, ◌^◌, ◌≡◌, ◌<◌, ◌≤◌, sym, ap, ◌∙◌, subst, arith, pos, negsuc, refl, ℤ, Option, Some, Bool, true, false, bit_and}
use Rattle.std.proofs.lemmas.Nat.{pow_pos}
use Rattle.std.proofs.lemmas.Nat.Bits.{and_high_mask}
use Rattle.bpf_insn.specs.Register.{number}
use Rattle.bpf_insn.specs.Signed.{sign_extended}
use Rattle.bpf_insn.specs.declared.alu_op.AluOp.{AluOp}
use Rattle.bpf_insn.specs.declared.alu_op.AluOp.TheVariants as op
use Rattle.bpf_insn.specs.declared.register.Register.{Register}
use Rattle.bpf_insn.specs.declared.operand.Operand.{Operand}
use Rattle.bpf_insn.specs.declared.operand.Operand.TheVariants as operands
use Rattle.bpf_insn.specs.declared.insn.Insn.{Insn}
use Rattle.bpf_insn.specs.declared.insn.Insn.TheVariants.{Alu}
use Rattle.bpf_note.specs.Facts.{Facts}
use Rattle.bpf_same.specs.declared.linear_form.LinearForm.{LinearForm}
use Rattle.bpf_same.specs.declared.relation.Relation.{Relation}
use Rattle.bpf_same.specs.LinearForms.{total, Hold}
use Rattle.bpf_same.specs.Ranges.{Lies, IsRead}
use Rattle.bpf_same.specs.Stepped.{IsNewAfter, LiesBefore, alters}
use Rattle.bpf_same.proofs.ComputeLemmas.{anded}

word_fits : (z : ℤ) → sign_extended z < 2 ^ 64
word_fits (pos n) = omega arith
word_fits (negsuc n) = omega arith

mask_value : (x mask to : ℕ) → mask ≡ 2 ^ to - 2 ^ 0 → x ≤ mask → bit_and x mask ≡ x
mask_value x mask to is l =
    let some : 0 < 2 ^ to = pow_pos to in
    let cut : bit_and x (2 ^ to - 2 ^ 0) ≡ x / 2 ^ 0 * 2 ^ 0 = and_high_mask to 0 (omega arith) x (omega (arith, is, l, some)) in
    ap (bit_and x) is ∙ (cut ∙ omega arith)

module _ (i : Insn) (stutters : Bool) (low : ℕ) (m : Facts) (e : Relation) where
  -- the range of a form by what is known after the step of a register that it leaves
  pub lies_by : (k from to lo hi : ℕ) (there form : LinearForm) → k < 11 → alters i k ≡ false → IsRead m (m.reg k) from to → ((f g : ℕ → Option ℕ) → Hold e f g → f k ≡ total f there) → ((f : ℕ → Option ℕ) → Lies (total f there) from to → Lies (total f form) lo hi) →
      LiesBefore i stutters low m e form lo hi
  lies_by k from to lo hi there form small left read is ranged = λ f g f' g' t h. ranged f (subst (λ (o : Option ℕ). Lies o from to) (t.kept k small left ∙ is f g h) (t.ranged k from to read small))

  pub mask_leaves : (o : AluOp) (wide : Bool) (dst : Register) (src : Operand) (value : ℤ) (form : LinearForm) (lo hi first to : ℕ) → i ≡ Alu o wide dst src → o ≡ op.And → wide ≡ true → src ≡ operands.Immediate value → ((f g : ℕ → Option ℕ) → Hold e f g → f (number dst) ≡ total f form) →
      LiesBefore i stutters low m e form lo hi → first ≡ 0 → sign_extended value ≡ 2 ^ to - 2 ^ first → hi ≤ sign_extended value → IsNewAfter i stutters low m e (number dst) form
  mask_leaves o wide dst src value form lo hi first to is at w imm held lies lowest mask top = λ f g f' g' t h.
      let shape : i ≡ Alu op.And true dst (operands.Immediate value) = is ∙ (ap (λ (o : AluOp). Alu o wide dst src) at ∙ (ap (λ (w : Bool). Alu op.And w dst src) w ∙ ap (Alu op.And true dst) imm)) in
      let l = lies f g f' g' t h in
      let most = l.most in
      let fits = word_fits value in
      let mask_is : sign_extended value ≡ 2 ^ to - 2 ^ 0 = mask ∙ ap (λ (k : ℕ). 2 ^ to - 2 ^ k) lowest in
      anded (f (number dst)) (Some (sign_extended value)) (f' (number dst)) l.x (sign_extended value) (t.made op.And true dst (operands.Immediate value) shape) (held f g h ∙ l.is) refl (omega (arith, most, top, fits)) fits
      ∙ (ap Some (mask_value l.x (sign_extended value) to mask_is (omega (arith, most, top))) ∙ sym l.is)
