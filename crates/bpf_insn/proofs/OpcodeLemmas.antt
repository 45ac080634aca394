-- Each opcode of the table spells an instruction with its other fields 0, those of the byte swaps with 16.
use Rattle.std.proofs.Common.{◌≡◌, ◌≢◌, ◌⊎◌, inl, inr, ℕ, ◌+◌, refl, Bool, true, false, List, [], ◌∷◌, ap, sym, subst, pos, Option, Some, None, IsTrue, rules}
use Rattle.std.specs.Prelude.{IfNone, IfSome, is_some}
use Rattle.bpf_insn.specs.Refusal.{IsOpcode, IsSpelled}
use Rattle.bpf_insn.specs.Spelling.{slots, slot, alu_class, alu_code, alu_offset}
use Rattle.bpf_insn.specs.declared.fields.Fields.{Fields}
use Rattle.bpf_insn.specs.declared.insn.Insn.{Insn}
use Rattle.bpf_insn.specs.declared.insn.Insn.TheVariants.{Alu, Neg, End, MovSx, Const, MapRef, Ldx, St, Stx, AddCounter, Ja, Jump, Call, Exit, Second}
use Rattle.bpf_insn.specs.declared.register.Register.TheVariants.{R0}
use Rattle.bpf_insn.specs.declared.operand.Operand.TheVariants.{Immediate, Register as InRegister}
use Rattle.bpf_insn.specs.declared.alu_op.AluOp.{AluOp}
use Rattle.bpf_insn.specs.declared.alu_op.AluOp.TheVariants.{Add, Sub, Mul, Div, SignedDiv, Or, And, Lsh, Rsh, Mod, SignedMod, Xor, Mov, Arsh}
use Rattle.bpf_insn.specs.declared.width.Width.TheVariants.{Bits16}
use Rattle.bpf_insn.specs.declared.size.Size.TheVariants.{Byte, Half, Word, Double}

first_op : (a f : Fields) (bs fs : List Fields) → a ∷ bs ≡ f ∷ fs → a.op ≡ f.op
first_op a f bs fs h = let e : a ≡ f = cc in ap (λ (x : Fields). x.op) e

-- what the opcode of a spelling spells
Known : ℕ → Type 0
Known op = (op ≡ 0x18) ⊎ (IsSpelled (slot op 0 0 (pos 0) (pos 0)) ⊎ IsSpelled (slot op 0 0 (pos 0) (pos 16)))

plainly : (a f : Fields) (bs fs : List Fields) (i : Insn) → a ∷ bs ≡ f ∷ fs → slots i ≡ slot a.op 0 0 (pos 0) (pos 0) ∷ [] → Known f.op
unfolding Known
plainly a f bs fs i h e = subst Known (first_op a f bs fs h) (inr (inl (record { insn = i; spelled = e })))

-- the operation without a sign, which has the offset 0
unsigned : AluOp → AluOp
unsigned Add = Add
unsigned Sub = Sub
unsigned Mul = Mul
unsigned Div = Div
unsigned SignedDiv = Div
unsigned Or = Or
unsigned And = And
unsigned Lsh = Lsh
unsigned Rsh = Rsh
unsigned Mod = Mod
unsigned SignedMod = Mod
unsigned Xor = Xor
unsigned Mov = Mov
unsigned Arsh = Arsh

alu_plain : (op : AluOp) (wide : Bool) (x : ℕ) → slot (alu_class wide + x + alu_code (unsigned op)) 0 0 (pos (alu_offset (unsigned op))) (pos 0) ≡ slot (alu_class wide + x + alu_code op) 0 0 (pos 0) (pos 0)
unfolding unsigned
alu_plain Add wide x = refl
alu_plain Sub wide x = refl
alu_plain Mul wide x = refl
alu_plain Div wide x = refl
alu_plain SignedDiv wide x = refl
alu_plain Or wide x = refl
alu_plain And wide x = refl
alu_plain Lsh wide x = refl
alu_plain Rsh wide x = refl
alu_plain Mod wide x = refl
alu_plain SignedMod wide x = refl
alu_plain Xor wide x = refl
alu_plain Mov wide x = refl
alu_plain Arsh wide x = refl

alu_plain_immediate : (op : AluOp) (wide : Bool) → slot (alu_class wide + alu_code (unsigned op)) 0 0 (pos (alu_offset (unsigned op))) (pos 0) ≡ slot (alu_class wide + alu_code op) 0 0 (pos 0) (pos 0)
unfolding unsigned
alu_plain_immediate Add wide = refl
alu_plain_immediate Sub wide = refl
alu_plain_immediate Mul wide = refl
alu_plain_immediate Div wide = refl
alu_plain_immediate SignedDiv wide = refl
alu_plain_immediate Or wide = refl
alu_plain_immediate And wide = refl
alu_plain_immediate Lsh wide = refl
alu_plain_immediate Rsh wide = refl
alu_plain_immediate Mod wide = refl
alu_plain_immediate SignedMod wide = refl
alu_plain_immediate Xor wide = refl
alu_plain_immediate Mov wide = refl
alu_plain_immediate Arsh wide = refl

known : (i : Insn) (f : Fields) (fs : List Fields) → slots i ≡ f ∷ fs → Known f.op
unfolding Known
known (Alu op wide dst (Immediate i)) f fs h = plainly _ f _ fs (Alu (unsigned op) wide R0 (Immediate (pos 0))) h (ap (λ (x : Fields). x ∷ []) (alu_plain_immediate op wide))
known (Alu op wide dst (InRegister src)) f fs h = plainly _ f _ fs (Alu (unsigned op) wide R0 (InRegister R0)) h (ap (λ (x : Fields). x ∷ []) (alu_plain op wide 8))
known (Neg wide dst) f fs h = plainly _ f _ fs (Neg wide R0) h refl
known (End kind width dst) f fs h = subst Known (first_op _ f _ fs h) (inr (inr (record { insn = End kind Bits16 R0; spelled = refl })))
known (MovSx wide Byte dst src) f fs h = plainly _ f _ fs (Alu Mov wide R0 (InRegister R0)) h refl
known (MovSx wide Half dst src) f fs h = plainly _ f _ fs (Alu Mov wide R0 (InRegister R0)) h refl
known (MovSx true Word dst src) f fs h = plainly _ f _ fs (Alu Mov true R0 (InRegister R0)) h refl
known (MovSx false Word dst src) f fs h = absurd cc
known (MovSx wide Double dst src) f fs h = absurd cc
known (Const dst value) f fs h = inl (sym (first_op _ f _ fs h))
known (MapRef dst m) f fs h = inl (sym (first_op _ f _ fs h))
known (Ldx size false dst src off) f fs h = plainly _ f _ fs (Ldx size false R0 R0 (pos 0)) h refl
known (Ldx Byte true dst src off) f fs h = plainly _ f _ fs (Ldx Byte true R0 R0 (pos 0)) h refl
known (Ldx Half true dst src off) f fs h = plainly _ f _ fs (Ldx Half true R0 R0 (pos 0)) h refl
known (Ldx Word true dst src off) f fs h = plainly _ f _ fs (Ldx Word true R0 R0 (pos 0)) h refl
known (Ldx Double true dst src off) f fs h = absurd cc
known (St size dst off imm) f fs h = plainly _ f _ fs (St size R0 (pos 0) (pos 0)) h refl
known (Stx size dst src off) f fs h = plainly _ f _ fs (Stx size R0 R0 (pos 0)) h refl
known (AddCounter fetch dst src off) f fs h = plainly _ f _ fs (AddCounter false R0 R0 (pos 0)) h refl
known (Ja false to) f fs h = plainly _ f _ fs (Ja false (pos 0)) h refl
known (Ja true to) f fs h = plainly _ f _ fs (Ja true (pos 0)) h refl
known (Jump cond wide dst (Immediate i) off) f fs h = plainly _ f _ fs (Jump cond wide R0 (Immediate (pos 0)) (pos 0)) h refl
known (Jump cond wide dst (InRegister src) off) f fs h = plainly _ f _ fs (Jump cond wide R0 (InRegister R0) (pos 0)) h refl
known (Call helper) f fs h = plainly _ f _ fs (Call (pos 0)) h refl
known Exit f fs h = plainly _ f _ fs Exit h refl
known Second f fs h = absurd cc

-- an opcode of the table that spells nothing plainly and is no wide load's is a byte swap's
pub swap_left : (op : ℕ) → IsOpcode op → op ≢ 0x18 → (IsSpelled (slot op 0 0 (pos 0) (pos 0)) → ⊥) → IsSpelled (slot op 0 0 (pos 0) (pos 16))
unfolding Known
swap_left op h wide plain =
    let k : Known op = subst Known h.same (known h.insn h.first h.others h.spelled) in
    elim k [ inl e ↦ absurd (wide e) | inr r ↦ elim r [ inl p ↦ absurd (plain p) | inr s ↦ s ] ]

pub spelled_opcode : (f : Fields) → IsSpelled f → IsOpcode f.op
spelled_opcode f s = record { insn = s.insn; first = f; others = []; spelled = s.spelled; same = refl }

pub wide_opcode : (op : ℕ) → op ≡ 0x18 → IsOpcode op
wide_opcode op e = record { insn = MapRef R0 0; first = slot 0x18 0 1 (pos 0) (pos 0); others = slot 0 0 0 (pos 0) (pos 0) ∷ []; spelled = refl; same = sym e }

-- what an answer of the reader of one slot says
pub spelled_if_some : (o : Option Insn) (f : Fields) → IfSome o (λ i. slots i ≡ f ∷ []) → IfNone o ((i : Insn) → slots i ≡ f ∷ [] → ⊥) → (IsTrue (is_some o) → IsSpelled f) × (IsSpelled f → IsTrue (is_some o))
spelled_if_some None f s n = (λ t. absurd (not_so t), λ k. absurd (n k.insn k.spelled))
  where
    not_so : IsTrue false → ⊥
    not_so h = search rules
spelled_if_some (Some i) f s n = (λ _. record { insn = i; spelled = s }, λ _. search rules)
