-- Numbers below 2 ^ 31 that are shifted to the upper half of a register, and back.
use Rattle.std.proofs.Common.{ℕ, ◌*◌, ◌/◌, ◌%◌, ◌^◌, ◌≡◌, ◌<◌, refl, sym, ap, ◌∙◌, arith, pos, Option, None, Some, Bool, true, false, nat_lt}
use Rattle.std.specs.Prelude.{if◌then◌else◌, ◌-ℤ◌, IfSome}
use Rattle.std.proofs.lemmas.Bool.Decides.{nat_tests}
use Rattle.bpf_insn.specs.Register.{number}
use Rattle.bpf_insn.specs.Signed.{modulo}
use Rattle.bpf_insn.specs.Arithmetic.{computed, divided_down}
use Rattle.bpf_insn.specs.declared.alu_op.AluOp.{AluOp}
use Rattle.bpf_insn.specs.declared.alu_op.AluOp.TheVariants as op
use Rattle.bpf_insn.specs.declared.register.Register.{Register}
use Rattle.bpf_insn.specs.declared.operand.Operand.{Operand}
use Rattle.bpf_insn.specs.declared.operand.Operand.TheVariants as operands
use Rattle.bpf_insn.specs.declared.insn.Insn.{Insn}
use Rattle.bpf_insn.specs.declared.insn.Insn.TheVariants.{Alu}
use Rattle.bpf_note.specs.Facts.{Facts}
use Rattle.bpf_same.specs.declared.linear_form.LinearForm.{LinearForm}
use Rattle.bpf_same.specs.declared.relation.Relation.{Relation}
use Rattle.bpf_same.specs.declared.range.Range.{Range}
use Rattle.bpf_same.specs.LinearForms.{total, shifted_of, Hold}
use Rattle.bpf_same.specs.Stepped.{IsNewAfter, IsPulledBack, LiesBefore, IsShift, IsSmallAfter, PreservesShifted, BringsBack}

some_is : {x y : ℕ} → Some x ≡ Some y → x ≡ y
some_is e = cc

lsh_value : (x : ℕ) → x < 2 ^ 31 → computed op.Lsh true x 32 ≡ x * 2 ^ 32
unfolding computed
lsh_value x l = omega (arith, l)

rsh_value : (x : ℕ) → x < 2 ^ 31 → computed op.Rsh true (x * 2 ^ 32) 32 ≡ x
unfolding computed
rsh_value x l = omega (arith, l)

positive : (a d : ℕ) (b : Bool) → b ≡ true → modulo (2 ^ 64) (divided_down (if b then pos a else (pos a -ℤ pos (2 ^ 64))) d) ≡ (a / d) % 2 ^ 64
positive a d true e = refl
positive a d false e = cc

arsh_value : (x : ℕ) → x < 2 ^ 31 → computed op.Arsh true (x * 2 ^ 32) 32 ≡ x
unfolding computed
arsh_value x l =
    let whole : (x * 2 ^ 32) % 2 ^ 64 ≡ x * 2 ^ 32 = omega (arith, l) in
    let small : 2 * ((x * 2 ^ 32) % 2 ^ 64) < 2 ^ 64 = omega (arith, l, whole) in
    positive ((x * 2 ^ 32) % 2 ^ 64) (2 ^ 32) (nat_lt (2 * ((x * 2 ^ 32) % 2 ^ 64)) (2 ^ 64)) (grind (arith, nat_tests, small)) ∙ omega (arith, l, whole)

pub rsh_back : BringsBack op.Rsh
rsh_back = record { reads = λ o. refl; value = rsh_value }

pub arsh_back : BringsBack op.Arsh
arsh_back = record { reads = λ o. refl; value = arsh_value }

module _ (i : Insn) (stutters : Bool) (low : ℕ) (m : Facts) (e : Relation) where
  pub small_by : (k : ℕ) (s there here : LinearForm) (range : Range) → ((f g : ℕ → Option ℕ) → Hold e f g → f k ≡ total f there) → there ≡ here → IsPulledBack i stutters low m e s here → LiesBefore i stutters low m e here range.low range.high → range.high < 2 ^ 31 →
      IsSmallAfter i stutters low m e k s
  small_by k s there here range a same back lies top = λ f g f' g' t h.
      let l = lies f g f' g' t h in
      let most = l.most in
      record { x = l.x; before = a f g h ∙ (ap (total f) same ∙ l.is); after = back f g f' g' t h ∙ l.is; small = omega (arith, most, top) }

  pub shifted_by : (k : ℕ) (s : LinearForm) → IsShift i k → IsSmallAfter i stutters low m e k s → PreservesShifted i stutters low m e k s
  shifted_by k s shift small = λ f g f' g' t h.
      let z = small f g f' g' t h in
      let c = t.made op.Lsh true shift.dst (operands.Immediate (pos 32)) shift.is in
      let first : f (number shift.dst) ≡ Some c.x = c.first in
      let x : c.x ≡ z.x = some_is (sym first ∙ (ap f (sym shift.register) ∙ z.before)) in
      let y : c.y ≡ 32 = some_is (sym c.second) in
      let value : computed op.Lsh true c.x c.y ≡ z.x * 2 ^ 32 = ap (computed op.Lsh true c.x) y ∙ (ap (λ (x : ℕ). computed op.Lsh true x 32) x ∙ lsh_value z.x z.small) in
      record { x = z.x; is = z.after; small = z.small; shifted = ap f' shift.register ∙ (c.is ∙ ap Some value) }

  pub back_if : (o : AluOp) (wide : Bool) (dst : Register) (src : Operand) (k : ℕ) (s : Option LinearForm) → i ≡ Alu o wide dst src → wide ≡ true → src ≡ operands.Immediate (pos 32) → BringsBack o → k ≡ number dst → k < 11 → s ≡ shifted_of e k →
      IfSome s (IsNewAfter i stutters low m e (number dst))
  back_if o wide dst src k None is w half back at small same = tt
  back_if o wide dst src k (Some s) is w half back at small same = λ f g f' g' t h.
      let z = h.shifted k s small (sym same) in
      let shape : i ≡ Alu o true dst (operands.Immediate (pos 32)) = is ∙ (ap (λ (w : Bool). Alu o w dst src) w ∙ ap (Alu o true dst) half) in
      let c = t.made o true dst (operands.Immediate (pos 32)) shape in
      let first : f (number dst) ≡ Some c.x = sym (back.reads (f (number dst))) ∙ c.first in
      let x : c.x ≡ z.x * 2 ^ 32 = some_is (sym first ∙ (ap f (sym at) ∙ z.shifted)) in
      let y : c.y ≡ 32 = some_is (sym c.second) in
      let value : computed o true c.x c.y ≡ z.x = ap (computed o true c.x) y ∙ (ap (λ (x : ℕ). computed o true x 32) x ∙ back.value z.x z.small) in
      c.is ∙ (ap Some value ∙ sym z.is)
