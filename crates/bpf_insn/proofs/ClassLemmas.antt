-- The class of an instruction's opcode, its low three bits.
use Rattle.std.proofs.Common.{◌≡◌, ℕ, ◌+◌, ◌%◌, ◌<◌, refl, Bool, true, false, [], ◌∷◌, ap, sym, ◌∙◌, arith, ℤ, Option, Some, None}
use Rattle.std.specs.Prelude.{IfNone, IfSome}
use Rattle.bpf_insn.proofs.FormLemmas.{one_of, alu_code_high, jump_code_high}
use Rattle.bpf_insn.specs.Spelling.{slots, alu_class, alu_code, jump_class, jump_code, size_code}
use Rattle.bpf_insn.specs.declared.fields.Fields.{Fields}
use Rattle.bpf_insn.specs.declared.insn.Insn.{Insn}
use Rattle.bpf_insn.specs.declared.insn.Insn.TheVariants.{Alu, Neg, End, MovSx, Const, MapRef, Ldx, St, Stx, AddCounter, Ja, Jump, Call, Exit, Second}
use Rattle.bpf_insn.specs.declared.register.Register.{Register}
use Rattle.bpf_insn.specs.declared.operand.Operand.TheVariants.{Immediate, Register as InRegister}
use Rattle.bpf_insn.specs.declared.swap_kind.SwapKind.TheVariants.{ToLittle, ToBig, Swap}
use Rattle.bpf_insn.specs.declared.size.Size.{Size}
use Rattle.bpf_insn.specs.declared.size.Size.TheVariants.{Byte, Half, Word, Double}

op_of : (g f : Fields) → g ∷ [] ≡ f ∷ [] → g.op ≡ f.op
op_of g f h = ap (λ (x : Fields). x.op) (one_of g f h)

alu_low : (wide : Bool) (code x : ℕ) → code % 16 ≡ 0 → alu_class wide + code ≡ x → x % 8 ≡ alu_class wide
alu_low true code x h e = omega arith
alu_low false code x h e = omega arith

alu_low_register : (wide : Bool) (code x : ℕ) → code % 16 ≡ 0 → alu_class wide + 8 + code ≡ x → x % 8 ≡ alu_class wide
alu_low_register true code x h e = omega arith
alu_low_register false code x h e = omega arith

jump_low : (wide : Bool) (code x : ℕ) → code % 16 ≡ 0 → jump_class wide + code ≡ x → x % 8 ≡ jump_class wide
jump_low true code x h e = omega arith
jump_low false code x h e = omega arith

jump_low_register : (wide : Bool) (code x : ℕ) → code % 16 ≡ 0 → jump_class wide + 8 + code ≡ x → x % 8 ≡ jump_class wide
jump_low_register true code x h e = omega arith
jump_low_register false code x h e = omega arith

size_low : (size : Size) (c x : ℕ) → c + size_code size ≡ x → x % 8 ≡ c % 8
size_low Byte c x e = omega arith
size_low Half c x e = omega arith
size_low Word c x e = omega arith
size_low Double c x e = omega arith

-- the class of the forms of one slot
class : Insn → ℕ
class (Alu op wide dst src) = alu_class wide
class (Neg wide dst) = alu_class wide
class (End ToLittle width dst) = 4
class (End ToBig width dst) = 4
class (End Swap width dst) = 7
class (MovSx wide bits dst src) = alu_class wide
class (Const dst value) = 0
class (MapRef dst m) = 0
class (Ldx size signed dst src off) = 1
class (St size dst off imm) = 2
class (Stx size dst src off) = 3
class (AddCounter fetch dst src off) = 3
class (Ja false to) = 5
class (Ja true to) = 6
class (Jump cond wide dst src off) = jump_class wide
class (Call helper) = 5
class Exit = 5
class Second = 0

two_is_not_one : (a b f : Fields) → a ∷ b ∷ [] ≡ f ∷ [] → ⊥
two_is_not_one a b f h = cc

none_is_not_one : (f : Fields) → [] ≡ f ∷ [] → ⊥
none_is_not_one f h = cc

class_is : (i : Insn) (f : Fields) → slots i ≡ f ∷ [] → f.op % 8 ≡ class i
unfolding class
class_is (Alu op wide dst (Immediate i)) f h = alu_low wide (alu_code op) f.op (alu_code_high op) (op_of _ f h)
class_is (Alu op wide dst (InRegister src)) f h = alu_low_register wide (alu_code op) f.op (alu_code_high op) (op_of _ f h)
class_is (Neg wide dst) f h = alu_low wide 0x80 f.op refl (op_of _ f h)
class_is (End ToLittle width dst) f h = let e = op_of _ f h in omega arith
class_is (End ToBig width dst) f h = let e = op_of _ f h in omega arith
class_is (End Swap width dst) f h = let e = op_of _ f h in omega arith
class_is (MovSx wide Byte dst src) f h = alu_low_register wide 0xb0 f.op refl (op_of _ f h)
class_is (MovSx wide Half dst src) f h = alu_low_register wide 0xb0 f.op refl (op_of _ f h)
class_is (MovSx true Word dst src) f h = let e = op_of _ f h in omega arith
class_is (MovSx false Word dst src) f h = absurd (none_is_not_one f h)
class_is (MovSx wide Double dst src) f h = absurd (none_is_not_one f h)
class_is (Const dst value) f h = absurd (two_is_not_one _ _ f h)
class_is (MapRef dst m) f h = absurd (two_is_not_one _ _ f h)
class_is (Ldx size false dst src off) f h = size_low size 0x61 f.op (op_of _ f h)
class_is (Ldx Byte true dst src off) f h = let e = op_of _ f h in omega arith
class_is (Ldx Half true dst src off) f h = let e = op_of _ f h in omega arith
class_is (Ldx Word true dst src off) f h = let e = op_of _ f h in omega arith
class_is (Ldx Double true dst src off) f h = absurd (none_is_not_one f h)
class_is (St size dst off imm) f h = size_low size 0x62 f.op (op_of _ f h)
class_is (Stx size dst src off) f h = size_low size 0x63 f.op (op_of _ f h)
class_is (AddCounter fetch dst src off) f h = let e = op_of _ f h in omega arith
class_is (Ja false to) f h = let e = op_of _ f h in omega arith
class_is (Ja true to) f h = let e = op_of _ f h in omega arith
class_is (Jump cond wide dst (Immediate i) off) f h = jump_low wide (jump_code cond) f.op (jump_code_high cond) (op_of _ f h)
class_is (Jump cond wide dst (InRegister src) off) f h = jump_low_register wide (jump_code cond) f.op (jump_code_high cond) (op_of _ f h)
class_is (Call helper) f h = let e = op_of _ f h in omega arith
class_is Exit f h = let e = op_of _ f h in omega arith
class_is Second f h = absurd (none_is_not_one f h)

alu_is_not : (wide : Bool) (c : ℕ) → c ≡ alu_class wide → c < 4 → ⊥
alu_is_not true c e l = omega arith
alu_is_not false c e l = omega arith

jump_is_not : (wide : Bool) (c : ℕ) → c ≡ jump_class wide → c < 4 → ⊥
jump_is_not true c e l = omega arith
jump_is_not false c e l = omega arith

-- the classes 2 and 3 have these forms alone
pub st_alone : (f : Fields) → f.op % 8 ≡ 2 → ((size : Size) (dst : Register) (off imm : ℤ) → slots (St size dst off imm) ≡ f ∷ [] → ⊥) → (i : Insn) → slots i ≡ f ∷ [] → ⊥
unfolding class
st_alone f c none (St size dst off imm) h = none size dst off imm h
st_alone f c none (Alu op wide dst src) h = alu_is_not wide 2 (sym c ∙ class_is (Alu op wide dst src) f h) (omega arith)
st_alone f c none (Neg wide dst) h = alu_is_not wide 2 (sym c ∙ class_is (Neg wide dst) f h) (omega arith)
st_alone f c none (MovSx wide bits dst src) h = alu_is_not wide 2 (sym c ∙ class_is (MovSx wide bits dst src) f h) (omega arith)
st_alone f c none (Jump cond wide dst src off) h = jump_is_not wide 2 (sym c ∙ class_is (Jump cond wide dst src off) f h) (omega arith)
st_alone f c none (End ToLittle width dst) h = omega (arith, class_is (End ToLittle width dst) f h)
st_alone f c none (End ToBig width dst) h = omega (arith, class_is (End ToBig width dst) f h)
st_alone f c none (End Swap width dst) h = omega (arith, class_is (End Swap width dst) f h)
st_alone f c none (Const dst value) h = two_is_not_one _ _ f h
st_alone f c none (MapRef dst m) h = two_is_not_one _ _ f h
st_alone f c none (Ldx size signed dst src off) h = omega (arith, class_is (Ldx size signed dst src off) f h)
st_alone f c none (Stx size dst src off) h = omega (arith, class_is (Stx size dst src off) f h)
st_alone f c none (AddCounter fetch dst src off) h = omega (arith, class_is (AddCounter fetch dst src off) f h)
st_alone f c none (Ja false to) h = omega (arith, class_is (Ja false to) f h)
st_alone f c none (Ja true to) h = omega (arith, class_is (Ja true to) f h)
st_alone f c none (Call helper) h = omega (arith, class_is (Call helper) f h)
st_alone f c none Exit h = omega (arith, class_is Exit f h)
st_alone f c none Second h = none_is_not_one f h

pub stx_alone : (f : Fields) → f.op % 8 ≡ 3 → ((size : Size) (dst src : Register) (off : ℤ) → slots (Stx size dst src off) ≡ f ∷ [] → ⊥) → ((fetch : Bool) (dst src : Register) (off : ℤ) → slots (AddCounter fetch dst src off) ≡ f ∷ [] → ⊥) → (i : Insn) → slots i ≡ f ∷ [] → ⊥
unfolding class
stx_alone f c plain atomic (Stx size dst src off) h = plain size dst src off h
stx_alone f c plain atomic (AddCounter fetch dst src off) h = atomic fetch dst src off h
stx_alone f c plain atomic (Alu op wide dst src) h = alu_is_not wide 3 (sym c ∙ class_is (Alu op wide dst src) f h) (omega arith)
stx_alone f c plain atomic (Neg wide dst) h = alu_is_not wide 3 (sym c ∙ class_is (Neg wide dst) f h) (omega arith)
stx_alone f c plain atomic (MovSx wide bits dst src) h = alu_is_not wide 3 (sym c ∙ class_is (MovSx wide bits dst src) f h) (omega arith)
stx_alone f c plain atomic (Jump cond wide dst src off) h = jump_is_not wide 3 (sym c ∙ class_is (Jump cond wide dst src off) f h) (omega arith)
stx_alone f c plain atomic (End ToLittle width dst) h = omega (arith, class_is (End ToLittle width dst) f h)
stx_alone f c plain atomic (End ToBig width dst) h = omega (arith, class_is (End ToBig width dst) f h)
stx_alone f c plain atomic (End Swap width dst) h = omega (arith, class_is (End Swap width dst) f h)
stx_alone f c plain atomic (Const dst value) h = two_is_not_one _ _ f h
stx_alone f c plain atomic (MapRef dst m) h = two_is_not_one _ _ f h
stx_alone f c plain atomic (Ldx size signed dst src off) h = omega (arith, class_is (Ldx size signed dst src off) f h)
stx_alone f c plain atomic (St size dst off imm) h = omega (arith, class_is (St size dst off imm) f h)
stx_alone f c plain atomic (Ja false to) h = omega (arith, class_is (Ja false to) f h)
stx_alone f c plain atomic (Ja true to) h = omega (arith, class_is (Ja true to) f h)
stx_alone f c plain atomic (Call helper) h = omega (arith, class_is (Call helper) f h)
stx_alone f c plain atomic Exit h = omega (arith, class_is Exit f h)
stx_alone f c plain atomic Second h = none_is_not_one f h

pub then_none : {P Q : Type 0} (o : Option Insn) → (P → Q) → IfNone o P → IfNone o Q
then_none None f p = f p
then_none (Some i) f p = tt

pub then_both_none : {P Q R : Type 0} (o : Option Insn) → (P → Q → R) → IfNone o P → IfNone o Q → IfNone o R
then_both_none None f p q = f p q
then_both_none (Some i) f p q = tt

not_class_zero : (i : Insn) (f : Fields) → slots i ≡ f ∷ [] → class i ≡ 0 → ⊥
unfolding class
not_class_zero (Alu op wide dst src) f h c = alu_is_not wide 0 (sym c) (omega arith)
not_class_zero (Neg wide dst) f h c = alu_is_not wide 0 (sym c) (omega arith)
not_class_zero (MovSx wide bits dst src) f h c = alu_is_not wide 0 (sym c) (omega arith)
not_class_zero (Jump cond wide dst src off) f h c = jump_is_not wide 0 (sym c) (omega arith)
not_class_zero (End ToLittle width dst) f h c = omega arith
not_class_zero (End ToBig width dst) f h c = omega arith
not_class_zero (End Swap width dst) f h c = omega arith
not_class_zero (Const dst value) f h c = two_is_not_one _ _ f h
not_class_zero (MapRef dst m) f h c = two_is_not_one _ _ f h
not_class_zero (Ldx size signed dst src off) f h c = omega arith
not_class_zero (St size dst off imm) f h c = omega arith
not_class_zero (Stx size dst src off) f h c = omega arith
not_class_zero (AddCounter fetch dst src off) f h c = omega arith
not_class_zero (Ja false to) f h c = omega arith
not_class_zero (Ja true to) f h c = omega arith
not_class_zero (Call helper) f h c = omega arith
not_class_zero Exit f h c = omega arith
not_class_zero Second f h c = none_is_not_one f h

-- an instruction of one slot is no wide load
pub one_is_narrow : (i : Insn) (f : Fields) → slots i ≡ f ∷ [] → f.op ≡ 0x18 → ⊥
one_is_narrow i f e wide =
    let c : f.op % 8 ≡ 0 = omega arith in
    not_class_zero i f e (sym (class_is i f e) ∙ c)

pub then_some : {P Q : Insn → Type 0} (o : Option Insn) → ((i : Insn) → P i → Q i) → IfSome o P → IfSome o Q
then_some None f p = p
then_some (Some i) f p = f i p

pub then_both_some : {P Q R : Insn → Type 0} (o : Option Insn) → ((i : Insn) → P i → Q i → R i) → IfSome o P → IfSome o Q → IfSome o R
then_both_some None f p q = p
then_both_some (Some i) f p q = f i p q
