-- What is shown of linear forms after a step.
use Rattle.std.proofs.Common.{ℕ, zero, suc, ◌+◌, ◌-◌, ◌*◌, ◌/◌, ◌%◌, ◌^◌, ◌≡◌, ◌<◌, ◌≤◌, refl, sym, ap, ◌∙◌, subst, arith, ℤ, negsuc, Option, None, Some, Bool, true, false}
use Rattle.std.specs.Prelude.{IfSome, ◌==◌}
use Rattle.std.proofs.lemmas.Bool.Decides.{nat_tests}
use Rattle.std.proofs.lemmas.Nat.{pow-add}
use Rattle.std.proofs.Math.Nat.{div-div-eq-div-mul, zero-div}
use Rattle.bpf_insn.specs.Register.{number}
use Rattle.bpf_insn.specs.declared.alu_op.AluOp.{AluOp}
use Rattle.bpf_insn.specs.declared.alu_op.AluOp.TheVariants as op
use Rattle.bpf_insn.specs.declared.register.Register.{Register}
use Rattle.bpf_insn.specs.declared.size.Size.TheVariants.{Double}
use Rattle.bpf_insn.specs.declared.operand.Operand.{Operand}
use Rattle.bpf_insn.specs.declared.operand.Operand.TheVariants as operands
use Rattle.bpf_insn.specs.Arithmetic.{computed}
use Rattle.std.specs.Int.Bits.{xor_self}
use Rattle.bpf_insn.specs.declared.insn.Insn.{Insn}
use Rattle.bpf_insn.specs.declared.insn.Insn.TheVariants.{Alu, Ldx}
use Rattle.bpf_note.specs.Facts.{Facts}
use Rattle.bpf_same.specs.declared.linear_form.LinearForm.{LinearForm}
use Rattle.bpf_same.specs.declared.relation.Relation.{Relation}
use Rattle.bpf_same.specs.LinearForms.{plus, bit, with_bit, gathered, total, IsWord, Hold, old_of}
use Rattle.bpf_same.specs.Stepped.{alters, operand_in, Computes, Stepped, IsNewAfter, IsOldAfter, IsPulledBack, IsPart, IsWithTerm, PreservesOld, PreservesNew, IsOldAlike}
use Rattle.bpf_same.proofs.LinearFormLemmas.{plus_assoc}

some_same : {x y : ℕ} → Some x ≡ Some y → x ≡ y
some_same e = cc

pub same_number : (k n : ℕ) → (k == n) ≡ true → k ≡ n
same_number k n e = grind (arith, nat_tests)

-- the register that an instruction alters
pub alters_alu : (i : Insn) (op : AluOp) (wide : Bool) (dst : Register) (src : Operand) (k : ℕ) → i ≡ Alu op wide dst src → alters i k ≡ true → k ≡ number dst
alters_alu i op wide dst src k e a = same_number k (number dst) (sym (ap (λ (i : Insn). alters i k) e) ∙ a)

pub alters_load : (i : Insn) (dst src : Register) (off : ℤ) (k : ℕ) → i ≡ Ldx Double false dst src off → alters i k ≡ true → k ≡ number dst
alters_load i dst src off k e a = same_number k (number dst) (sym (ap (λ (i : Insn). alters i k) e) ∙ a)

pub new_at : (i : Insn) (stutters : Bool) (low : ℕ) (m : Facts) (e : Relation) (n k : ℕ) (o : Option LinearForm) → k ≡ n → IfSome o (IsNewAfter i stutters low m e n) → IfSome o (IsNewAfter i stutters low m e k)
new_at i stutters low m e n k o same h = subst (λ (k : ℕ). IfSome o (IsNewAfter i stutters low m e k)) (sym same) h

pub old_at : (i : Insn) (stutters : Bool) (low : ℕ) (m : Facts) (e : Relation) (n k : ℕ) (o : Option LinearForm) → k ≡ n → IfSome o (IsOldAfter i stutters low m e n) → IfSome o (IsOldAfter i stutters low m e k)
old_at i stutters low m e n k o same h = subst (λ (k : ℕ). IfSome o (IsOldAfter i stutters low m e k)) (sym same) h

-- what both have written is the same, so the note says it of the old program's register too
pub old_noted_if : (i : Insn) (stutters : Bool) (low : ℕ) (m : Facts) (e : Relation) (k : ℕ) (o : Option LinearForm) → stutters ≡ false → alters i k ≡ true → k < 11 → IfSome o (IsNewAfter i stutters low m e k) → IfSome o (IsOldAfter i stutters low m e k)
old_noted_if i stutters low m e k None c a l h = tt
old_noted_if i stutters low m e k (Some s) c a l h = λ f g f' g' t there. t.alike k l c a ∙ h f g f' g' t there

-- the operation on its operands' linear forms
pub new_result_if : (i : Insn) (stutters : Bool) (low : ℕ) (m : Facts) (e : Relation) (op : AluOp) (wide : Bool) (dst : Register) (src : Operand) (k : ℕ) (first second : LinearForm) (o : Option LinearForm) → i ≡ Alu op wide dst src → k ≡ number dst →
    ((f g : ℕ → Option ℕ) → Hold e f g → f k ≡ total f first) → ((f g : ℕ → Option ℕ) → Hold e f g → operand_in f src ≡ total f second) →
    IfSome o (λ s. (f : ℕ → Option ℕ) (a b x : Option ℕ) → a ≡ total f first → b ≡ total f second → Computes op wide a b x → x ≡ total f s) → IfSome o (IsNewAfter i stutters low m e (number dst))
new_result_if i stutters low m e op wide dst src k first second None is at p q h = tt
new_result_if i stutters low m e op wide dst src k first second (Some s) is at p q h = λ f g f' g' t there.
    h f (f (number dst)) (operand_in f src) (f' (number dst)) (ap f (sym at) ∙ p f g there) (q f g there) (t.made op wide dst src is)

pub old_result_if : (i : Insn) (stutters : Bool) (low : ℕ) (m : Facts) (e : Relation) (op : AluOp) (wide : Bool) (dst : Register) (src : Operand) (k : ℕ) (first second : LinearForm) (o : Option LinearForm) → i ≡ Alu op wide dst src → stutters ≡ false → k ≡ number dst →
    k < 11 → old_of e k ≡ Some first → ((f g : ℕ → Option ℕ) → Hold e f g → operand_in g src ≡ total f second) →
    IfSome o (λ s. (f : ℕ → Option ℕ) (a b x : Option ℕ) → a ≡ total f first → b ≡ total f second → Computes op wide a b x → x ≡ total f s) → IfSome o (IsOldAfter i stutters low m e (number dst))
old_result_if i stutters low m e op wide dst src k first second None is c at l p q h = tt
old_result_if i stutters low m e op wide dst src k first second (Some s) is c at l p q h = λ f g f' g' t there.
    h f (g (number dst)) (operand_in g src) (g' (number dst)) (ap g (sym at) ∙ there.olds k first l p) (q f g there) (t.old_made op wide dst src c is)

-- a register of the old program that a step leaves
pub old_kept_if : (i : Insn) (stutters : Bool) (low : ℕ) (m : Facts) (e : Relation) (k : ℕ) (o : Option LinearForm) → k < 11 → o ≡ old_of e k → ((f g f' g' : ℕ → Option ℕ) → Stepped i stutters low m f g f' g' → g' k ≡ g k) → IfSome o (IsOldAfter i stutters low m e k)
old_kept_if i stutters low m e k None l is h = tt
old_kept_if i stutters low m e k (Some s) l is h = λ f g f' g' t there. h f g f' g' t ∙ there.olds k s l (sym is)

-- one more term of a linear form
pub one_more : (f f' : ℕ → Option ℕ) (c mask n : ℕ) (all part more : Option ℕ) → bit mask n ≡ 1 → plus (Some c) (gathered f' mask n) ≡ all → f' n ≡ part → more ≡ plus all part → plus (Some c) (gathered f' mask (suc n)) ≡ more
one_more f f' c mask n all part more b h p q =
    ap (λ (b : ℕ). plus (Some c) (with_bit b (gathered f' mask n) (f' n))) b ∙ (sym (plus_assoc (Some c) (gathered f' mask n) (f' n)) ∙ (ap (λ (o : Option ℕ). plus o (f' n)) h ∙ (ap (plus all) p ∙ sym q)))

pub no_more : (f' : ℕ → Option ℕ) (c mask n : ℕ) (all : Option ℕ) → bit mask n ≡ 0 → plus (Some c) (gathered f' mask n) ≡ all → plus (Some c) (gathered f' mask (suc n)) ≡ all
no_more f' c mask n all b h = ap (λ (b : ℕ). plus (Some c) (with_bit b (gathered f' mask n) (f' n))) b ∙ h

pub none_yet : (c : ℕ) (all : Option ℕ) → c < 2 ^ 64 → all ≡ Some c → plus (Some c) (Some 0) ≡ all
none_yet c all l e = ap Some (omega (arith, l)) ∙ sym e

-- both forms are one
pub preserves_by : (i : Insn) (stutters : Bool) (low : ℕ) (m : Facts) (e : Relation) (k : ℕ) (s there here : LinearForm) → IsOldAfter i stutters low m e k there → IsPulledBack i stutters low m e s here → there ≡ here → PreservesOld i stutters low m e k s
preserves_by i stutters low m e k s there here a b same = λ f g f' g' t h. a f g f' g' t h ∙ (ap (total f) same ∙ sym (b f g f' g' t h))

pub preserves_new_by : (i : Insn) (stutters : Bool) (low : ℕ) (m : Facts) (e : Relation) (n : ℕ) (s there here : LinearForm) → IsNewAfter i stutters low m e n there → IsPulledBack i stutters low m e s here → there ≡ here → PreservesNew i stutters low m e n s
preserves_new_by i stutters low m e n s there here a b same = λ f g f' g' t h. a f g f' g' t h ∙ (ap (total f) same ∙ sym (b f g f' g' t h))

-- what both have written
pub alike_by : (i : Insn) (stutters : Bool) (low : ℕ) (m : Facts) (k : ℕ) (s there : LinearForm) → stutters ≡ false → alters i k ≡ true → k < 11 → ((f : ℕ → Option ℕ) → IsWord (f k) → total f there ≡ f k) → s ≡ there → IsOldAlike i stutters low m k s
alike_by i stutters low m k s there c a l h same = λ f g f' g' t. t.alike k l c a ∙ (sym (h f' (t.fits k)) ∙ ap (total f') (sym same))

same_word : (n w : ℕ) → 11 ≤ n → 11 ≤ w → negsuc (8 * n - 81) ≡ negsuc (8 * w - 81) → n ≡ w
same_word n w a b e = let h : 8 * n - 81 ≡ 8 * w - 81 = cc in omega (arith, h, a, b)

xor_none : (x : ℕ) → computed op.Xor true x x ≡ 0
unfolding computed
xor_none x = xor_self (x % 2 ^ 64)

-- a register that is cleared holds 0
pub cleared : (i : Insn) (stutters : Bool) (low : ℕ) (m : Facts) (e : Relation) (o : AluOp) (wide : Bool) (dst : Register) (src : Operand) (s : LinearForm) → i ≡ Alu o wide dst src → (o ≡ op.Xor) × (wide ≡ true) × (src ≡ operands.Register dst) →
    ((f : ℕ → Option ℕ) → total f s ≡ Some 0) → IsNewAfter i stutters low m e (number dst) s
cleared i stutters low m e o wide dst src s is c h = λ f g f' g' t there.
    let shape : i ≡ Alu op.Xor true dst (operands.Register dst) = is ∙ (ap (λ (o : AluOp). Alu o wide dst src) c.0 ∙ (ap (λ (w : Bool). Alu op.Xor w dst src) c.1 ∙ ap (Alu op.Xor true dst) c.2)) in
    let k = t.made op.Xor true dst (operands.Register dst) shape in
    let same : k.y ≡ k.x = some_same (sym k.second ∙ k.first) in
    k.is ∙ (ap (λ (y : ℕ). Some (computed op.Xor true k.x y)) same ∙ (ap Some (xor_none k.x) ∙ sym (h f)))

next_suc : (n : ℕ) → n + 1 ≡ suc n
next_suc n = omega arith

pub more_if : (i : Insn) (stutters : Bool) (low : ℕ) (m : Facts) (e : Relation) (there : LinearForm) (n : ℕ) (all part : LinearForm) (o : Option LinearForm) → bit there.terms n ≡ 1 → IsNewAfter i stutters low m e n part →
    IfSome o (λ s. (f : ℕ → Option ℕ) → total f s ≡ plus (total f all) (total f part)) → IfSome o (IsWithTerm i stutters low m e there n all)
more_if i stutters low m e there n all part None b p h = tt
more_if i stutters low m e there n all part (Some s) b p h = λ before f g f' g' t holds.
    ap (λ (n : ℕ). plus (Some there.constant) (gathered f' there.terms n)) (next_suc n) ∙
    one_more f f' there.constant there.terms n (total f all) (total f part) (total f s) b (before f g f' g' t holds) (p f g f' g' t holds) (h f)

pub none_more : (i : Insn) (stutters : Bool) (low : ℕ) (m : Facts) (e : Relation) (there : LinearForm) (n : ℕ) (all : LinearForm) → bit there.terms n ≡ 0 → IsWithTerm i stutters low m e there n all all
none_more i stutters low m e there n all b = λ before f g f' g' t holds.
    ap (λ (n : ℕ). plus (Some there.constant) (gathered f' there.terms n)) (next_suc n) ∙ no_more f' there.constant there.terms n (total f all) b (before f g f' g' t holds)

-- past the last bit of a mask nothing is gathered
bit_past : (mask n k : ℕ) → mask / 2 ^ n ≡ 0 → bit mask (n + k) ≡ 0
bit_past mask n k h =
    ap (λ (x : ℕ). x % 2) (ap (λ (x : ℕ). mask / x) (pow-add 2 n k) ∙ (sym (div-div-eq-div-mul mask (2 ^ n) (2 ^ k)) ∙ (ap (λ (x : ℕ). x / 2 ^ k) h ∙ zero-div (2 ^ k))))

gathered_past : (f : ℕ → Option ℕ) (mask n k : ℕ) → mask / 2 ^ n ≡ 0 → gathered f mask (n + k) ≡ gathered f mask n
gathered_past f mask n zero h =
    let same : n + zero ≡ n = omega arith in
    ap (gathered f mask) same
gathered_past f mask n (suc k) h =
    let next : n + suc k ≡ suc (n + k) = omega arith in
    ap (gathered f mask) next ∙ (ap (λ (b : ℕ). with_bit b (gathered f mask (n + k)) (f (n + k))) (bit_past mask n k h) ∙ gathered_past f mask n k h)

pub all_gathered : (f : ℕ → Option ℕ) (mask n : ℕ) → n ≤ 64 → mask / 2 ^ n ≡ 0 → gathered f mask 64 ≡ gathered f mask n
all_gathered f mask n l h =
    let all : 64 ≡ n + (64 - n) = omega (arith, l) in
    ap (gathered f mask) all ∙ gathered_past f mask n (64 - n) h

pub none_before : (i : Insn) (stutters : Bool) (low : ℕ) (m : Facts) (e : Relation) (there all : LinearForm) → there.constant < 2 ^ 64 → ((f : ℕ → Option ℕ) → total f all ≡ Some there.constant) → IsPart i stutters low m e there 0 all
none_before i stutters low m e there all l h = λ f g f' g' t holds. none_yet there.constant (total f all) l (h f)

pub same_form : {x y : LinearForm} → Some x ≡ Some y → x ≡ y
same_form e = cc

-- a difference and what was subtracted come to what was there
sum_back : (l : Option ℕ) (x y : ℕ) → x < 2 ^ 64 → y < 2 ^ 64 → plus (plus l (Some y)) (Some (computed op.Sub true x y)) ≡ plus l (Some x)
unfolding computed
sum_back None x y p q = refl
sum_back (Some l) x y p q = ap Some (omega (arith, p, q))

pub difference_back : (i : Insn) (stutters : Bool) (low : ℕ) (m : Facts) (e : Relation) (dst src : Register) (term : ℕ) (form held rest there less subtracted first : LinearForm) (o : Option LinearForm) → i ≡ Alu op.Sub true dst (operands.Register src) → term ≡ number dst →
    ((f : ℕ → Option ℕ) → total f form ≡ plus (total f rest) (total f held)) → ((f : ℕ → Option ℕ) → IsWord (f term) → total f held ≡ f term) → IsPulledBack i stutters low m e rest there →
    ((f : ℕ → Option ℕ) → total f there ≡ plus (total f less) (total f subtracted)) → ((f g : ℕ → Option ℕ) → Hold e f g → f (number src) ≡ total f subtracted) → ((f g : ℕ → Option ℕ) → Hold e f g → f term ≡ total f first) →
    IfSome o (λ s. (f : ℕ → Option ℕ) → total f s ≡ plus (total f less) (total f first)) → IfSome o (IsPulledBack i stutters low m e form)
difference_back i stutters low m e dst src term form held rest there less subtracted first None is at p q r s t u v = tt
difference_back i stutters low m e dst src term form held rest there less subtracted first (Some whole) is at p q r s t u v = λ f g f' g' h holds.
    let k = h.made op.Sub true dst (operands.Register src) is in
    let x_is : total f first ≡ Some k.x = sym (u f g holds) ∙ (ap f at ∙ k.first) in
    let y_is : total f subtracted ≡ Some k.y = sym (t f g holds) ∙ k.second in
    let after : f' term ≡ Some (computed op.Sub true k.x k.y) = ap f' at ∙ k.is in
    let small_x : k.x < 2 ^ 64 = holds.words (number dst) k.x k.first in
    let small_y : k.y < 2 ^ 64 = holds.words (number src) k.y k.second in
    p f' ∙ (ap (plus (total f' rest)) (q f' (h.fits term) ∙ after)
    ∙ (ap (λ (o : Option ℕ). plus o (Some (computed op.Sub true k.x k.y))) (r f g f' g' h holds ∙ (s f ∙ ap (plus (total f less)) y_is))
    ∙ (sum_back (total f less) k.x k.y small_x small_y ∙ (sym (ap (plus (total f less)) x_is) ∙ sym (v f)))))
