-- Stated: claims rest on this file.
-- The text of instructions, in the notation of the Linux kernel's disassembler.
-- Rows from LLVM guard it: `text` of crates/outside_rows.
use Rattle.std.specs.Prelude.{ℕ, suc, ℤ, pos, negsuc, Bool, true, false, List, [], ◌++◌, codes, if◌then◌else◌}
use Rattle.std.specs.Fmt.{decimal, signed_decimal, digits}
use Rattle.std.specs.Int.{cast_unsigned, w32}
use Rattle.bpf_insn.specs.Register.{number}
use Rattle.bpf_insn.specs.Size.{size_bits, width_bits}
use Rattle.bpf_insn.specs.declared.insn.Insn.{Insn}
use Rattle.bpf_insn.specs.declared.insn.Insn.TheVariants.{Alu, Neg, End, MovSx, Const, MapRef, Ldx, St, Stx, AddCounter, Ja, Jump}
use Rattle.bpf_insn.specs.declared.insn.Insn.TheVariants.{Call, Exit, Second}
use Rattle.bpf_insn.specs.declared.register.Register.{Register}
use Rattle.bpf_insn.specs.declared.operand.Operand.{Operand}
use Rattle.bpf_insn.specs.declared.operand.Operand.TheVariants.{Immediate, Register as InRegister}
use Rattle.bpf_insn.specs.declared.alu_op.AluOp.{AluOp}
use Rattle.bpf_insn.specs.declared.alu_op.AluOp.TheVariants.{Add, Sub, Mul, Div, SignedDiv, Or, And, Lsh, Rsh, Mod, SignedMod, Xor}
use Rattle.bpf_insn.specs.declared.alu_op.AluOp.TheVariants.{Mov, Arsh}
use Rattle.bpf_insn.specs.declared.condition.Condition.{Condition}
use Rattle.bpf_insn.specs.declared.condition.Condition.TheVariants.{Equal, Greater, GreaterOrEqual, Set, NotEqual, SignedGreater}
use Rattle.bpf_insn.specs.declared.condition.Condition.TheVariants.{SignedGreaterOrEqual, Less, LessOrEqual, SignedLess}
use Rattle.bpf_insn.specs.declared.condition.Condition.TheVariants.{SignedLessOrEqual}
use Rattle.bpf_insn.specs.declared.swap_kind.SwapKind.{SwapKind}
use Rattle.bpf_insn.specs.declared.swap_kind.SwapKind.TheVariants.{ToLittle, ToBig, Swap}
use Rattle.bpf_insn.specs.declared.size.Size.{Size}

-- `r0`, and `w0` for the low half
abbrev pub register_text : Bool → Register → List ℕ
register_text wide r = (if wide then codes "r" else codes "w") ++ decimal (number r)

abbrev pub operation_text : AluOp → List ℕ
operation_text Add = codes "+="
operation_text Sub = codes "-="
operation_text Mul = codes "*="
operation_text Div = codes "/="
operation_text SignedDiv = codes "s/="
operation_text Or = codes "|="
operation_text And = codes "&="
operation_text Lsh = codes "<<="
operation_text Rsh = codes ">>="
operation_text Mod = codes "%="
operation_text SignedMod = codes "s%="
operation_text Xor = codes "^="
operation_text Mov = codes "="
operation_text Arsh = codes "s>>="

abbrev pub condition_text : Condition → List ℕ
condition_text Equal = codes "=="
condition_text Greater = codes ">"
condition_text GreaterOrEqual = codes ">="
condition_text Set = codes "&"
condition_text NotEqual = codes "!="
condition_text SignedGreater = codes "s>"
condition_text SignedGreaterOrEqual = codes "s>="
condition_text Less = codes "<"
condition_text LessOrEqual = codes "<="
condition_text SignedLess = codes "s<"
condition_text SignedLessOrEqual = codes "s<="

abbrev pub swap_text : SwapKind → List ℕ
swap_text ToLittle = codes "le"
swap_text ToBig = codes "be"
swap_text Swap = codes "bswap"

-- a number with its sign, `+1` or `-8`
abbrev pub offset_text : ℤ → List ℕ
offset_text (pos n) = codes "+" ++ decimal n
offset_text (negsuc n) = codes "-" ++ decimal (suc n)

-- the second operand of an arithmetic instruction, a constant in decimal
abbrev pub source_text : Bool → Operand → List ℕ
source_text wide (InRegister r) = register_text wide r
source_text wide (Immediate i) = signed_decimal i

-- the second operand of a jump, a constant as its 32 bits in hexadecimal
abbrev pub compared_text : Bool → Operand → List ℕ
compared_text wide (InRegister r) = register_text wide r
compared_text wide (Immediate i) = codes "0x" ++ digits 16 false (cast_unsigned w32 i)

-- what is loaded or stored, `u8` to `u64` and `s8` to `s64`
abbrev pub size_text : Bool → Size → List ℕ
size_text signed size = (if signed then codes "s" else codes "u") ++ decimal (size_bits size)

-- an address, `(r2 +0)`
abbrev pub address_text : Register → ℤ → List ℕ
address_text r off = codes "(" ++ register_text true r ++ codes " " ++ offset_text off ++ codes ")"

-- a number in memory, `*(u16 *)(r2 +12)`
abbrev pub cell_text : Bool → Size → Register → ℤ → List ℕ
cell_text signed size base off = codes "*(" ++ size_text signed size ++ codes " *)" ++ address_text base off

-- an addition that gives the old number, `atomic64_fetch_add((u64 *)(r10 -8), r1)`
unfoldable pub fetch_text : Register → ℤ → Register → List ℕ
fetch_text base off src = codes "atomic64_fetch_add((u64 *)" ++ address_text base off ++ codes ", " ++ register_text true src ++ codes ")"

-- an addition to memory, `lock *(u64 *)(r10 -8) += r1`; the old number of one that gives it goes to src
abbrev pub addition_text : Bool → Register → ℤ → Register → List ℕ
addition_text false base off src = codes "lock *(u64 *)" ++ address_text base off ++ codes " += " ++ register_text true src
addition_text true base off src = register_text true src ++ codes " = " ++ fetch_text base off src

-- what a conditional jump tests, `w0 s< 0x5`
abbrev pub test_text : Condition → Bool → Register → Operand → List ℕ
test_text cond wide dst src = register_text wide dst ++ codes " " ++ condition_text cond ++ codes " " ++ compared_text wide src

-- arithmetic, a constant and a map's number
abbrev pub arithmetic_text : Insn → List ℕ
arithmetic_text (Alu op wide dst src) = register_text wide dst ++ codes " " ++ operation_text op ++ codes " " ++ source_text wide src
arithmetic_text (Neg wide dst) = register_text wide dst ++ codes " = -" ++ register_text wide dst
arithmetic_text (End kind width dst) = register_text true dst ++ codes " = " ++ swap_text kind ++ decimal (width_bits width)
    ++ codes " " ++ register_text true dst
arithmetic_text (MovSx wide bits dst src) = register_text wide dst ++ codes " = (" ++ size_text true bits ++ codes ")"
    ++ register_text wide src
arithmetic_text (Const dst value) = register_text true dst ++ codes " = 0x" ++ digits 16 false value
arithmetic_text (MapRef dst m) = register_text true dst ++ codes " = map " ++ decimal m
arithmetic_text i = []

-- loads, stores and adds
abbrev pub access_text : Insn → List ℕ
access_text (Ldx size signed dst src off) = register_text true dst ++ codes " = " ++ cell_text signed size src off
access_text (St size dst off imm) = cell_text false size dst off ++ codes " = " ++ signed_decimal imm
access_text (Stx size dst src off) = cell_text false size dst off ++ codes " = " ++ register_text true src
access_text (AddCounter fetch dst src off) = addition_text fetch dst off src
access_text i = []

-- jumps, calls and the exit
abbrev pub control_text : Insn → List ℕ
control_text (Ja false to) = codes "goto pc" ++ offset_text to
control_text (Ja true to) = codes "gotol pc" ++ offset_text to
control_text (Jump cond wide dst src off) = codes "if " ++ test_text cond wide dst src ++ codes " goto pc" ++ offset_text off
control_text (Call helper) = codes "call " ++ signed_decimal helper
control_text Exit = codes "exit"
control_text Second = codes "second slot"
control_text i = []

-- an instruction has one of the three
abbrev pub insn_text : Insn → List ℕ
insn_text i = arithmetic_text i ++ access_text i ++ control_text i
