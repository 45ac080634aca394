-- What operations make of linear forms, and what a relation says of registers.
use Rattle.std.proofs.Common.{ℕ, ◌+◌, ◌%◌, ◌^◌, ◌≡◌, ◌<◌, refl, sym, ap, ◌∙◌, subst, arith, Option, None, Some, Bool, true}
use Rattle.std.specs.Prelude.{IfSome, bit_and}
use Rattle.bpf_insn.specs.Register.{number}
use Rattle.bpf_insn.specs.Arithmetic.{computed}
use Rattle.bpf_insn.specs.declared.alu_op.AluOp.{AluOp}
use Rattle.bpf_insn.specs.declared.alu_op.AluOp.TheVariants as op
use Rattle.bpf_insn.specs.declared.register.Register.{Register}
use Rattle.bpf_insn.specs.declared.operand.Operand.{Operand}
use Rattle.bpf_insn.specs.declared.operand.Operand.TheVariants as operands
use Rattle.bpf_flow.proofs.RegisterLemmas.{number_small}
use Rattle.bpf_same.specs.declared.linear_form.LinearForm.{LinearForm}
use Rattle.bpf_same.specs.declared.relation.Relation.{Relation}
use Rattle.bpf_same.specs.LinearForms.{plus, gathered, total, IsWord, Hold, old_of}
use Rattle.bpf_same.specs.Stepped.{operand_in, Computes}
use Rattle.bpf_same.proofs.LinearFormLemmas.{total_constant}

pub total_word : (f : ℕ → Option ℕ) (s : LinearForm) → IsWord (total f s)
total_word f s = by (gathered f s.terms 64)
  where
    by : (o : Option ℕ) → IsWord (plus (Some s.constant) o)
    by None = λ x e. cc
    by (Some y) = λ x e. let same : (s.constant + y) % 2 ^ 64 ≡ x = cc in omega (arith, same)

-- a linear form without terms
pub total_alone : (f : ℕ → Option ℕ) (s : LinearForm) → s.terms ≡ 0 → s.constant < 2 ^ 64 → total f s ≡ Some s.constant
total_alone f s e l = ap (λ (m : ℕ). total f (record { constant = s.constant; terms = m })) e ∙ total_constant f s.constant l

mov_value : (x y : ℕ) → y < 2 ^ 64 → computed op.Mov true x y ≡ y
unfolding computed
mov_value x y l = omega (arith, l)

add_value : (x y : ℕ) → computed op.Add true x y ≡ (x + y) % 2 ^ 64
unfolding computed
add_value x y = omega arith

pub mod_word : (x : ℕ) → x < 2 ^ 64 → x % 2 ^ 64 ≡ x
mod_word x l = omega (arith, l)

and_value : (x y : ℕ) → x < 2 ^ 64 → y < 2 ^ 64 → computed op.And true x y ≡ bit_and x y
unfolding computed
and_value x y l m = ap (λ (x : ℕ). bit_and x (y % 2 ^ 64)) (mod_word x l) ∙ ap (bit_and x) (mod_word y m)

pub moved : (a b o : Option ℕ) → Computes op.Mov true a b o → IsWord b → o ≡ b
moved a b o k w = k.is ∙ (ap Some (mov_value k.x k.y (w k.y k.second)) ∙ sym k.second)

pub added : (a b o : Option ℕ) → Computes op.Add true a b o → o ≡ plus a b
added a b o k = k.is ∙ (ap Some (add_value k.x k.y) ∙ sym (ap (λ (a : Option ℕ). plus a b) k.first ∙ ap (plus (Some k.x)) k.second))

some_is : {x y : ℕ} → Some x ≡ Some y → x ≡ y
some_is e = cc

sub_value : (x y z : ℕ) → z < 2 ^ 64 → x ≡ (z + y) % 2 ^ 64 → computed op.Sub true x y ≡ z
unfolding computed
sub_value x y z l e = omega (arith, l, e)

-- what is left of a number after a subtraction
pub subtracted : (a b o rest : Option ℕ) → Computes op.Sub true a b o → a ≡ plus rest b → IsWord rest → o ≡ rest
subtracted a b o None k e w = let none : Some k.x ≡ None = sym k.first ∙ e in cc
subtracted a b o (Some z) k e w =
    let whole : Some k.x ≡ Some ((z + k.y) % 2 ^ 64) = sym k.first ∙ (e ∙ ap (plus (Some z)) k.second) in
    k.is ∙ ap Some (sub_value k.x k.y z (w z refl) (some_is whole))

pub anded : (a b o : Option ℕ) (x y : ℕ) → Computes op.And true a b o → a ≡ Some x → b ≡ Some y → x < 2 ^ 64 → y < 2 ^ 64 → o ≡ Some (bit_and x y)
anded a b o x y k e f l m =
    let one : k.x ≡ x = some_is (sym k.first ∙ e) in
    let two : k.y ≡ y = some_is (sym k.second ∙ f) in
    k.is ∙ (ap (λ (x : ℕ). Some (computed op.And true x k.y)) one ∙ (ap (λ (y : ℕ). Some (computed op.And true x y)) two ∙ ap Some (and_value x y l m)))

-- what is computed, of another name of the operation
pub computes_as : (op op' : AluOp) (wide wide' : Bool) (a b o : Option ℕ) → op ≡ op' → wide ≡ wide' → Computes op wide a b o → Computes op' wide' a b o
computes_as op op' wide wide' a b o e f k = subst (λ (op : AluOp). Computes op wide' a b o) e (subst (λ (w : Bool). Computes op w a b o) f k)

-- what the relation says of a register of the old program
pub old_if : (e : Relation) (k : ℕ) (o : Option LinearForm) → o ≡ old_of e k → k < 11 → IfSome o (λ s. (f g : ℕ → Option ℕ) → Hold e f g → g k ≡ total f s)
old_if e k None same l = tt
old_if e k (Some s) same l = λ f g h. h.olds k s l (sym same)

pub old_operand_if : (e : Relation) (src : Operand) (r : Register) (k : ℕ) (o : Option LinearForm) → src ≡ operands.Register r → k ≡ number r → o ≡ old_of e k → IfSome o (λ s. (f g : ℕ → Option ℕ) → Hold e f g → operand_in g src ≡ total f s)
old_operand_if e src r k None is at same = tt
old_operand_if e src r k (Some s) is at same = λ f g h.
    ap (operand_in g) is ∙ (ap g (sym at) ∙ h.olds k s (subst (λ (k : ℕ). k < 11) (sym at) (number_small r)) (sym same))

pub subtracted_if : (first second : LinearForm) (op' : AluOp) (wide : Bool) (o : Option LinearForm) → op' ≡ op.Sub → wide ≡ true → IfSome o (λ s. (f : ℕ → Option ℕ) → total f first ≡ plus (total f s) (total f second)) →
    IfSome o (λ s. (f : ℕ → Option ℕ) (a b x : Option ℕ) → a ≡ total f first → b ≡ total f second → Computes op' wide a b x → x ≡ total f s)
subtracted_if first second op' wide None e w h = tt
subtracted_if first second op' wide (Some s) e w h = λ f a b x p q k.
    subtracted a b x (total f s) (computes_as op' op.Sub wide true a b x e w k) (p ∙ (h f ∙ ap (plus (total f s)) (sym q))) (total_word f s)

pub added_if : (first second : LinearForm) (op' : AluOp) (wide : Bool) (o : Option LinearForm) → op' ≡ op.Add → wide ≡ true → IfSome o (λ s. (f : ℕ → Option ℕ) → total f s ≡ plus (total f first) (total f second)) →
    IfSome o (λ s. (f : ℕ → Option ℕ) (a b x : Option ℕ) → a ≡ total f first → b ≡ total f second → Computes op' wide a b x → x ≡ total f s)
added_if first second op' wide None e w h = tt
added_if first second op' wide (Some s) e w h = λ f a b x p q k.
    added a b x (computes_as op' op.Add wide true a b x e w k) ∙ (ap (λ (a : Option ℕ). plus a b) p ∙ (ap (plus (total f first)) q ∙ sym (h f)))
