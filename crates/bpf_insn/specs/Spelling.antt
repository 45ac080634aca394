-- Stated: claims rest on this file.
-- The bytes of instructions (RFC 9669 sections 3 to 5, in this project's profile). It only writes, each form once.
-- Rows from LLVM guard it: `text` of crates/outside_rows.
use Rattle.std.specs.Prelude.{ℕ, ◌+◌, ◌/◌, ◌%◌, ◌^◌, ◌≡◌, ◌<◌, ◌≢◌, ℤ, pos, Bool, true, false, List, [], ◌∷◌, ◌++◌, flat_map, FitsSigned}
use Rattle.std.specs.Int.{cast_signed, w16, w32}
use Rattle.bpf_insn.specs.Register.{number}
use Rattle.bpf_insn.specs.Size.{width_bits}
use Rattle.bpf_insn.specs.Fields.{slot_bytes}
use Rattle.bpf_insn.specs.declared.fields.Fields.{Fields}
use Rattle.bpf_insn.specs.declared.insn.Insn.{Insn}
use Rattle.bpf_insn.specs.declared.insn.Insn.TheVariants.{Alu, Neg, End, MovSx, Const, MapRef, Ldx, St, Stx, AddCounter, Ja, Jump}
use Rattle.bpf_insn.specs.declared.insn.Insn.TheVariants.{Call, Exit, Second}
use Rattle.bpf_insn.specs.declared.operand.Operand.{Operand}
use Rattle.bpf_insn.specs.declared.operand.Operand.TheVariants.{Register, Immediate}
use Rattle.bpf_insn.specs.declared.alu_op.AluOp.{AluOp}
use Rattle.bpf_insn.specs.declared.alu_op.AluOp.TheVariants.{Add, Sub, Mul, Div, SignedDiv, Or, And, Lsh, Rsh, Mod, SignedMod, Xor}
use Rattle.bpf_insn.specs.declared.alu_op.AluOp.TheVariants.{Mov, Arsh}
use Rattle.bpf_insn.specs.declared.swap_kind.SwapKind.{SwapKind}
use Rattle.bpf_insn.specs.declared.swap_kind.SwapKind.TheVariants.{ToLittle, ToBig, Swap}
use Rattle.bpf_insn.specs.declared.condition.Condition.{Condition}
use Rattle.bpf_insn.specs.declared.condition.Condition.TheVariants.{Equal, Greater, GreaterOrEqual, Set, NotEqual, SignedGreater}
use Rattle.bpf_insn.specs.declared.condition.Condition.TheVariants.{SignedGreaterOrEqual, Less, LessOrEqual, SignedLess}
use Rattle.bpf_insn.specs.declared.condition.Condition.TheVariants.{SignedLessOrEqual}
use Rattle.bpf_insn.specs.declared.size.Size.{Size}
use Rattle.bpf_insn.specs.declared.size.Size.TheVariants.{Byte, Half, Word, Double}

-- section 3.3, the low three bits of an opcode: LD 0, LDX 1, ST 2, STX 3, ALU 4, JMP 5, JMP32 6, ALU64 7
abbrev pub alu_class : Bool → ℕ
alu_class true = 7
alu_class false = 4

abbrev pub jump_class : Bool → ℕ
jump_class true = 5
jump_class false = 6

-- section 4.1, the high four bits of an arithmetic opcode
abbrev pub alu_code : AluOp → ℕ
alu_code Add = 0x00
alu_code Sub = 0x10
alu_code Mul = 0x20
alu_code Div = 0x30
alu_code SignedDiv = 0x30
alu_code Or = 0x40
alu_code And = 0x50
alu_code Lsh = 0x60
alu_code Rsh = 0x70
alu_code Mod = 0x90
alu_code SignedMod = 0x90
alu_code Xor = 0xa0
alu_code Mov = 0xb0
alu_code Arsh = 0xc0

-- section 4.1: the offset tells signed division from unsigned
abbrev pub alu_offset : AluOp → ℕ
alu_offset Add = 0
alu_offset Sub = 0
alu_offset Mul = 0
alu_offset Div = 0
alu_offset SignedDiv = 1
alu_offset Or = 0
alu_offset And = 0
alu_offset Lsh = 0
alu_offset Rsh = 0
alu_offset Mod = 0
alu_offset SignedMod = 1
alu_offset Xor = 0
alu_offset Mov = 0
alu_offset Arsh = 0

-- section 4.2: END (0xd0) of ALU with source bit 0 or 1, or of ALU64
abbrev pub swap_opcode : SwapKind → ℕ
swap_opcode ToLittle = 0xd4
swap_opcode ToBig = 0xdc
swap_opcode Swap = 0xd7

-- section 4.3, the high four bits of a conditional jump's opcode
abbrev pub jump_code : Condition → ℕ
jump_code Equal = 0x10
jump_code Greater = 0x20
jump_code GreaterOrEqual = 0x30
jump_code Set = 0x40
jump_code NotEqual = 0x50
jump_code SignedGreater = 0x60
jump_code SignedGreaterOrEqual = 0x70
jump_code Less = 0xa0
jump_code LessOrEqual = 0xb0
jump_code SignedLess = 0xc0
jump_code SignedLessOrEqual = 0xd0

-- section 5, the two bits of a size
abbrev pub size_code : Size → ℕ
size_code Word = 0x00
size_code Half = 0x08
size_code Byte = 0x10
size_code Double = 0x18

abbrev pub flag : Bool → ℕ
flag true = 1
flag false = 0

abbrev pub slot : ℕ → ℕ → ℕ → ℤ → ℤ → Fields
slot op dst src off imm = record { op = op; dst = dst; src = src; off = off; imm = imm }

-- the slots of an instruction, each field that it doesn't use being 0; none if it has no spelling
abbrev pub slots : Insn → List Fields
slots (Alu op wide dst (Immediate i)) = slot (alu_class wide + alu_code op) (number dst) 0 (pos (alu_offset op)) i ∷ []
slots (Alu op wide dst (Register src)) = slot (alu_class wide + 8 + alu_code op) (number dst) (number src) (pos (alu_offset op))
    (pos 0) ∷ []
slots (Neg wide dst) = slot (alu_class wide + 0x80) (number dst) 0 (pos 0) (pos 0) ∷ []
slots (End kind width dst) = slot (swap_opcode kind) (number dst) 0 (pos 0) (pos (width_bits width)) ∷ []
slots (MovSx wide Byte dst src) = slot (alu_class wide + 8 + 0xb0) (number dst) (number src) (pos 8) (pos 0) ∷ []
slots (MovSx wide Half dst src) = slot (alu_class wide + 8 + 0xb0) (number dst) (number src) (pos 16) (pos 0) ∷ []
slots (MovSx true Word dst src) = slot 0xbf (number dst) (number src) (pos 32) (pos 0) ∷ []
slots (MovSx false Word dst src) = []
slots (MovSx wide Double dst src) = []
slots (Const dst value) = slot 0x18 (number dst) 0 (pos 0) (cast_signed w32 (value % 2 ^ 32))
    ∷ slot 0 0 0 (pos 0) (cast_signed w32 (value / 2 ^ 32)) ∷ []
slots (MapRef dst m) = slot 0x18 (number dst) 1 (pos 0) (cast_signed w32 m) ∷ slot 0 0 0 (pos 0) (pos 0) ∷ []
slots (Ldx size false dst src off) = slot (0x61 + size_code size) (number dst) (number src) off (pos 0) ∷ []
slots (Ldx Byte true dst src off) = slot 0x91 (number dst) (number src) off (pos 0) ∷ []
slots (Ldx Half true dst src off) = slot 0x89 (number dst) (number src) off (pos 0) ∷ []
slots (Ldx Word true dst src off) = slot 0x81 (number dst) (number src) off (pos 0) ∷ []
slots (Ldx Double true dst src off) = []
slots (St size dst off imm) = slot (0x62 + size_code size) (number dst) 0 off imm ∷ []
slots (Stx size dst src off) = slot (0x63 + size_code size) (number dst) (number src) off (pos 0) ∷ []
slots (AddCounter fetch dst src off) = slot 0xdb (number dst) (number src) off (pos (flag fetch)) ∷ []
slots (Ja false to) = slot 0x05 0 0 to (pos 0) ∷ []
slots (Ja true to) = slot 0x06 0 0 (pos 0) to ∷ []
slots (Jump cond wide dst (Immediate i) off) = slot (jump_class wide + jump_code cond) (number dst) 0 off i ∷ []
slots (Jump cond wide dst (Register src) off) = slot (jump_class wide + 8 + jump_code cond) (number dst) (number src) off (pos 0) ∷ []
slots (Call helper) = slot 0x85 0 0 (pos 0) helper ∷ []
slots Exit = slot 0x95 0 0 (pos 0) (pos 0) ∷ []
slots Second = []

-- the bytes of an instruction
abbrev pub spelling : Insn → List ℕ
spelling i = flat_map slot_bytes (slots i)

abbrev pub FitsOperand : Operand → Type 0
FitsOperand (Register src) = Unit {0}
FitsOperand (Immediate i) = FitsSigned w32 i

-- an instruction whose numbers fit the fields that spell them
abbrev pub FitsFields : Insn → Type 0
FitsFields (Alu op wide dst src) = FitsOperand src
FitsFields (Neg wide dst) = Unit {0}
FitsFields (End kind width dst) = Unit {0}
FitsFields (MovSx wide bits dst src) = Unit {0}
FitsFields (Const dst value) = value < 2 ^ 64
FitsFields (MapRef dst m) = m < 2 ^ 32
FitsFields (Ldx size signed dst src off) = FitsSigned w16 off
FitsFields (St size dst off imm) = FitsSigned w16 off × FitsSigned w32 imm
FitsFields (Stx size dst src off) = FitsSigned w16 off
FitsFields (AddCounter fetch dst src off) = FitsSigned w16 off
FitsFields (Ja false to) = FitsSigned w16 to
FitsFields (Ja true to) = FitsSigned w32 to
FitsFields (Jump cond wide dst src off) = FitsSigned w16 off × FitsOperand src
FitsFields (Call helper) = FitsSigned w32 helper
FitsFields Exit = Unit {0}
FitsFields Second = Unit {0}

-- what has a spelling: an instruction that has slots, which hold its numbers
pub record HasSpelling (i : Insn) : Type 0 where
  pub some : slots i ≢ []
  pub fits : FitsFields i

-- no instruction's spelling begins the bytes
abbrev pub ContinuesNone : List ℕ → Type 0
ContinuesNone bytes = (i : Insn) (more : List ℕ) → HasSpelling i → bytes ≡ spelling i ++ more → ⊥
