-- What the opcode of a slot says of the instruction that it spells.
use Rattle.std.proofs.Common.{◌≡◌, ℕ, ◌+◌, ◌/◌, ◌%◌, refl, Bool, true, false, [], ◌∷◌, ap, sym, arith, ℤ, pos}
use Rattle.bpf_insn.specs.Form.{IsOperand}
use Rattle.bpf_insn.specs.Register.{number}
use Rattle.bpf_insn.specs.Spelling.{slots, slot, alu_class, alu_code, alu_offset, jump_class, jump_code}
use Rattle.bpf_insn.specs.declared.fields.Fields.{Fields}
use Rattle.bpf_insn.specs.declared.insn.Insn.TheVariants.{Alu, Jump}
use Rattle.bpf_insn.specs.declared.register.Register.{Register}
use Rattle.bpf_insn.specs.declared.alu_op.AluOp.{AluOp}
use Rattle.bpf_insn.specs.declared.alu_op.AluOp.TheVariants.{Add, Sub, Mul, Div, SignedDiv, Or, And, Lsh, Rsh, Mod, SignedMod, Xor, Mov, Arsh}
use Rattle.bpf_insn.specs.declared.condition.Condition.{Condition}
use Rattle.bpf_insn.specs.declared.condition.Condition.TheVariants.{Equal, Greater, GreaterOrEqual, Set, NotEqual, SignedGreater, SignedGreaterOrEqual, Less, LessOrEqual, SignedLess, SignedLessOrEqual}
use Rattle.bpf_insn.specs.declared.operand.Operand.{Operand}
use Rattle.bpf_insn.specs.declared.operand.Operand.TheVariants.{Immediate, Register as InRegister}

pub alu_code_high : (op : AluOp) → alu_code op % 16 ≡ 0
alu_code_high Add = refl
alu_code_high Sub = refl
alu_code_high Mul = refl
alu_code_high Div = refl
alu_code_high SignedDiv = refl
alu_code_high Or = refl
alu_code_high And = refl
alu_code_high Lsh = refl
alu_code_high Rsh = refl
alu_code_high Mod = refl
alu_code_high SignedMod = refl
alu_code_high Xor = refl
alu_code_high Mov = refl
alu_code_high Arsh = refl

pub jump_code_high : (cond : Condition) → jump_code cond % 16 ≡ 0
jump_code_high Equal = refl
jump_code_high Greater = refl
jump_code_high GreaterOrEqual = refl
jump_code_high Set = refl
jump_code_high NotEqual = refl
jump_code_high SignedGreater = refl
jump_code_high SignedGreaterOrEqual = refl
jump_code_high Less = refl
jump_code_high LessOrEqual = refl
jump_code_high SignedLess = refl
jump_code_high SignedLessOrEqual = refl

pub one_of : (f g : Fields) → f ∷ [] ≡ g ∷ [] → f ≡ g
one_of f g h = cc

immediate_bit : (wide : Bool) (code op : ℕ) → code % 16 ≡ 0 → alu_class wide + code ≡ op → (op / 8) % 2 ≡ 0
immediate_bit true code op h e = omega arith
immediate_bit false code op h e = omega arith

register_bit : (wide : Bool) (code op : ℕ) → code % 16 ≡ 0 → alu_class wide + 8 + code ≡ op → (op / 8) % 2 ≡ 1
register_bit true code op h e = omega arith
register_bit false code op h e = omega arith

pub alu_operand : (op : AluOp) (wide : Bool) (dst : Register) (src : Operand) (f : Fields) → slots (Alu op wide dst src) ≡ f ∷ [] → IsOperand f src
alu_operand op wide dst (Immediate i) f h =
    let e = one_of (slot (alu_class wide + alu_code op) (number dst) 0 (pos (alu_offset op)) i) f h in
    (immediate_bit wide (alu_code op) f.op (alu_code_high op) (ap (λ (x : Fields). x.op) e), sym (ap (λ (x : Fields). x.src) e), sym (ap (λ (x : Fields). x.imm) e))
alu_operand op wide dst (InRegister r) f h =
    let e = one_of (slot (alu_class wide + 8 + alu_code op) (number dst) (number r) (pos (alu_offset op)) (pos 0)) f h in
    (register_bit wide (alu_code op) f.op (alu_code_high op) (ap (λ (x : Fields). x.op) e), ap (λ (x : Fields). x.src) e, sym (ap (λ (x : Fields). x.imm) e))

jump_immediate_bit : (wide : Bool) (code op : ℕ) → code % 16 ≡ 0 → jump_class wide + code ≡ op → (op / 8) % 2 ≡ 0
jump_immediate_bit true code op h e = omega arith
jump_immediate_bit false code op h e = omega arith

jump_register_bit : (wide : Bool) (code op : ℕ) → code % 16 ≡ 0 → jump_class wide + 8 + code ≡ op → (op / 8) % 2 ≡ 1
jump_register_bit true code op h e = omega arith
jump_register_bit false code op h e = omega arith

pub jump_operand : (cond : Condition) (wide : Bool) (dst : Register) (src : Operand) (off : ℤ) (f : Fields) → slots (Jump cond wide dst src off) ≡ f ∷ [] → IsOperand f src
jump_operand cond wide dst (Immediate i) off f h =
    let e = one_of (slot (jump_class wide + jump_code cond) (number dst) 0 off i) f h in
    (jump_immediate_bit wide (jump_code cond) f.op (jump_code_high cond) (ap (λ (x : Fields). x.op) e), sym (ap (λ (x : Fields). x.src) e), sym (ap (λ (x : Fields). x.imm) e))
jump_operand cond wide dst (InRegister r) off f h =
    let e = one_of (slot (jump_class wide + 8 + jump_code cond) (number dst) (number r) off (pos 0)) f h in
    (jump_register_bit wide (jump_code cond) f.op (jump_code_high cond) (ap (λ (x : Fields). x.op) e), ap (λ (x : Fields). x.src) e, sym (ap (λ (x : Fields). x.imm) e))
