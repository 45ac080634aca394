-- A reading of slots as an instruction, which gives each instruction back. So no two instructions have the same slots.
use Rattle.std.proofs.Common.{◌≡◌, ℕ, ◌+◌, ◌*◌, ◌/◌, ◌%◌, ◌<◌, ◌^◌, refl, Bool, true, false, nat_eq, nat_lt, List, [], ◌∷◌, ap, sym, ◌∙◌, arith, ℤ, pos}
use Rattle.std.specs.Prelude.{if◌then◌else◌, int_le}
use Rattle.std.specs.Int.{cast_unsigned, cast_signed, w32}
use Rattle.std.proofs.lemmas.Int.{of_z-to_z}
use Rattle.bpf_insn.specs.Register.{number}
use Rattle.bpf_insn.specs.Spelling.{slots, HasSpelling}
use Rattle.bpf_insn.specs.declared.fields.Fields.{Fields}
use Rattle.bpf_insn.specs.declared.insn.Insn.{Insn}
use Rattle.bpf_insn.specs.declared.insn.Insn.TheVariants.{Alu, Neg, End, MovSx, Const, MapRef, Ldx, St, Stx, AddCounter, Ja, Jump, Call, Exit, Second}
use Rattle.bpf_insn.specs.declared.register.Register.{Register}
use Rattle.bpf_insn.specs.declared.register.Register.TheVariants.{R0, R1, R2, R3, R4, R5, R6, R7, R8, R9, R10}
use Rattle.bpf_insn.specs.declared.operand.Operand.{Operand}
use Rattle.bpf_insn.specs.declared.operand.Operand.TheVariants.{Immediate, Register as InRegister}
use Rattle.bpf_insn.specs.declared.alu_op.AluOp.{AluOp}
use Rattle.bpf_insn.specs.declared.alu_op.AluOp.TheVariants.{Add, Sub, Mul, Div, SignedDiv, Or, And, Lsh, Rsh, Mod, SignedMod, Xor, Mov, Arsh}
use Rattle.bpf_insn.specs.declared.condition.Condition.{Condition}
use Rattle.bpf_insn.specs.declared.condition.Condition.TheVariants.{Equal, Greater, GreaterOrEqual, Set, NotEqual, SignedGreater, SignedGreaterOrEqual, Less, LessOrEqual, SignedLess, SignedLessOrEqual}
use Rattle.bpf_insn.specs.declared.swap_kind.SwapKind.TheVariants.{ToLittle, ToBig, Swap}
use Rattle.bpf_insn.specs.declared.width.Width.{Width}
use Rattle.bpf_insn.specs.declared.width.Width.TheVariants.{Bits16, Bits32, Bits64}
use Rattle.bpf_insn.specs.declared.size.Size.{Size}
use Rattle.bpf_insn.specs.declared.size.Size.TheVariants.{Byte, Half, Word, Double}

abbrev register_of : ℕ → Register
register_of n =
    if nat_eq n 0 then R0 else (
    if nat_eq n 1 then R1 else (
    if nat_eq n 2 then R2 else (
    if nat_eq n 3 then R3 else (
    if nat_eq n 4 then R4 else (
    if nat_eq n 5 then R5 else (
    if nat_eq n 6 then R6 else (
    if nat_eq n 7 then R7 else (
    if nat_eq n 8 then R8 else (
    if nat_eq n 9 then R9 else (
    R10))))))))))

register_back : (r : Register) → register_of (number r) ≡ r
register_back R0 = refl
register_back R1 = refl
register_back R2 = refl
register_back R3 = refl
register_back R4 = refl
register_back R5 = refl
register_back R6 = refl
register_back R7 = refl
register_back R8 = refl
register_back R9 = refl
register_back R10 = refl

abbrev alu_of : ℕ → Bool → AluOp
alu_of code signed =
    if nat_eq code 0 then Add else (
    if nat_eq code 16 then Sub else (
    if nat_eq code 32 then Mul else (
    if nat_eq code 48 then (if signed then SignedDiv else Div) else (
    if nat_eq code 64 then Or else (
    if nat_eq code 80 then And else (
    if nat_eq code 96 then Lsh else (
    if nat_eq code 112 then Rsh else (
    if nat_eq code 144 then (if signed then SignedMod else Mod) else (
    if nat_eq code 160 then Xor else (
    if nat_eq code 176 then Mov else (
    Arsh)))))))))))

abbrev condition_of : ℕ → Condition
condition_of code =
    if nat_eq code 16 then Equal else (
    if nat_eq code 32 then Greater else (
    if nat_eq code 48 then GreaterOrEqual else (
    if nat_eq code 64 then Set else (
    if nat_eq code 80 then NotEqual else (
    if nat_eq code 96 then SignedGreater else (
    if nat_eq code 112 then SignedGreaterOrEqual else (
    if nat_eq code 160 then Less else (
    if nat_eq code 176 then LessOrEqual else (
    if nat_eq code 192 then SignedLess else (
    SignedLessOrEqual))))))))))

abbrev size_of : ℕ → Size
size_of n = if nat_eq n 0 then Word else (if nat_eq n 1 then Half else (if nat_eq n 2 then Byte else Double))

abbrev width_of : ℤ → Width
width_of z = if int_le z (pos 16) then Bits16 else (if int_le z (pos 32) then Bits32 else Bits64)

abbrev operand_of : Fields → Operand
operand_of f = if nat_eq ((f.op / 8) % 2) 0 then Immediate f.imm else InRegister (register_of f.src)

abbrev extended_of : ℤ → Size
extended_of z = if int_le z (pos 8) then Byte else (if int_le z (pos 16) then Half else Word)

abbrev arithmetic_of : Fields → Insn
arithmetic_of f =
    if nat_eq (f.op / 16) 8 then Neg (nat_eq (f.op % 8) 7) (register_of f.dst) else (
    if nat_eq f.op 0xd4 then End ToLittle (width_of f.imm) (register_of f.dst) else (
    if nat_eq f.op 0xdc then End ToBig (width_of f.imm) (register_of f.dst) else (
    if nat_eq f.op 0xd7 then End Swap (width_of f.imm) (register_of f.dst) else (
    if int_le (pos 8) f.off then MovSx (nat_eq (f.op % 8) 7) (extended_of f.off) (register_of f.dst) (register_of f.src) else
    Alu (alu_of ((f.op / 16) * 16) (int_le (pos 1) f.off)) (nat_eq (f.op % 8) 7) (register_of f.dst) (operand_of f)))))

abbrev jump_of : Fields → Insn
jump_of f =
    if nat_eq f.op 0x05 then Ja false f.off else (
    if nat_eq f.op 0x06 then Ja true f.imm else (
    if nat_eq f.op 0x85 then Call f.imm else (
    if nat_eq f.op 0x95 then Exit else
    Jump (condition_of ((f.op / 16) * 16)) (nat_eq (f.op % 8) 5) (register_of f.dst) (operand_of f) f.off)))

abbrev one_of : Fields → Insn
one_of f =
    if nat_eq (f.op % 8) 1 then Ldx (if nat_lt f.op 0x80 then size_of ((f.op / 8) % 4) else size_of ((f.op / 8) % 4)) (nat_lt 0x80 f.op) (register_of f.dst) (register_of f.src) f.off else (
    if nat_eq (f.op % 8) 2 then St (size_of ((f.op / 8) % 4)) (register_of f.dst) f.off f.imm else (
    if nat_eq f.op 0xdb then AddCounter (int_le (pos 1) f.imm) (register_of f.dst) (register_of f.src) f.off else (
    if nat_eq (f.op % 8) 3 then Stx (size_of ((f.op / 8) % 4)) (register_of f.dst) (register_of f.src) f.off else (
    if nat_eq (f.op % 8) 4 then arithmetic_of f else (
    if nat_eq (f.op % 8) 7 then arithmetic_of f else
    jump_of f)))))

abbrev two_of : Fields → Fields → Insn
two_of f g =
    if nat_eq f.src 0 then Const (register_of f.dst) (cast_unsigned w32 f.imm + 2 ^ 32 * cast_unsigned w32 g.imm) else
    MapRef (register_of f.dst) (cast_unsigned w32 f.imm)

abbrev insn_of : List Fields → Insn
insn_of [] = Second
insn_of (f ∷ []) = one_of f
insn_of (f ∷ g ∷ gs) = two_of f g

halves : (value : ℕ) → value < 2 ^ 64 → cast_unsigned w32 (cast_signed w32 (value % 2 ^ 32)) + 2 ^ 32 * cast_unsigned w32 (cast_signed w32 (value / 2 ^ 32)) ≡ value
halves value h =
    let low = of_z-to_z w32 (value % 2 ^ 32) (omega arith) in
    let high = of_z-to_z w32 (value / 2 ^ 32) (omega arith) in
    omega (arith, low, high)

-- the instruction, from its slots
insn_back : (i : Insn) → HasSpelling i → insn_of (slots i) ≡ i
insn_back (Alu Add true dst (Immediate i)) h = rw (register_back dst) refl
insn_back (Alu Add true dst (InRegister src)) h = rw (register_back dst, register_back src) refl
insn_back (Alu Add false dst (Immediate i)) h = rw (register_back dst) refl
insn_back (Alu Add false dst (InRegister src)) h = rw (register_back dst, register_back src) refl
insn_back (Alu Sub true dst (Immediate i)) h = rw (register_back dst) refl
insn_back (Alu Sub true dst (InRegister src)) h = rw (register_back dst, register_back src) refl
insn_back (Alu Sub false dst (Immediate i)) h = rw (register_back dst) refl
insn_back (Alu Sub false dst (InRegister src)) h = rw (register_back dst, register_back src) refl
insn_back (Alu Mul true dst (Immediate i)) h = rw (register_back dst) refl
insn_back (Alu Mul true dst (InRegister src)) h = rw (register_back dst, register_back src) refl
insn_back (Alu Mul false dst (Immediate i)) h = rw (register_back dst) refl
insn_back (Alu Mul false dst (InRegister src)) h = rw (register_back dst, register_back src) refl
insn_back (Alu Div true dst (Immediate i)) h = rw (register_back dst) refl
insn_back (Alu Div true dst (InRegister src)) h = rw (register_back dst, register_back src) refl
insn_back (Alu Div false dst (Immediate i)) h = rw (register_back dst) refl
insn_back (Alu Div false dst (InRegister src)) h = rw (register_back dst, register_back src) refl
insn_back (Alu SignedDiv true dst (Immediate i)) h = rw (register_back dst) refl
insn_back (Alu SignedDiv true dst (InRegister src)) h = rw (register_back dst, register_back src) refl
insn_back (Alu SignedDiv false dst (Immediate i)) h = rw (register_back dst) refl
insn_back (Alu SignedDiv false dst (InRegister src)) h = rw (register_back dst, register_back src) refl
insn_back (Alu Or true dst (Immediate i)) h = rw (register_back dst) refl
insn_back (Alu Or true dst (InRegister src)) h = rw (register_back dst, register_back src) refl
insn_back (Alu Or false dst (Immediate i)) h = rw (register_back dst) refl
insn_back (Alu Or false dst (InRegister src)) h = rw (register_back dst, register_back src) refl
insn_back (Alu And true dst (Immediate i)) h = rw (register_back dst) refl
insn_back (Alu And true dst (InRegister src)) h = rw (register_back dst, register_back src) refl
insn_back (Alu And false dst (Immediate i)) h = rw (register_back dst) refl
insn_back (Alu And false dst (InRegister src)) h = rw (register_back dst, register_back src) refl
insn_back (Alu Lsh true dst (Immediate i)) h = rw (register_back dst) refl
insn_back (Alu Lsh true dst (InRegister src)) h = rw (register_back dst, register_back src) refl
insn_back (Alu Lsh false dst (Immediate i)) h = rw (register_back dst) refl
insn_back (Alu Lsh false dst (InRegister src)) h = rw (register_back dst, register_back src) refl
insn_back (Alu Rsh true dst (Immediate i)) h = rw (register_back dst) refl
insn_back (Alu Rsh true dst (InRegister src)) h = rw (register_back dst, register_back src) refl
insn_back (Alu Rsh false dst (Immediate i)) h = rw (register_back dst) refl
insn_back (Alu Rsh false dst (InRegister src)) h = rw (register_back dst, register_back src) refl
insn_back (Alu Mod true dst (Immediate i)) h = rw (register_back dst) refl
insn_back (Alu Mod true dst (InRegister src)) h = rw (register_back dst, register_back src) refl
insn_back (Alu Mod false dst (Immediate i)) h = rw (register_back dst) refl
insn_back (Alu Mod false dst (InRegister src)) h = rw (register_back dst, register_back src) refl
insn_back (Alu SignedMod true dst (Immediate i)) h = rw (register_back dst) refl
insn_back (Alu SignedMod true dst (InRegister src)) h = rw (register_back dst, register_back src) refl
insn_back (Alu SignedMod false dst (Immediate i)) h = rw (register_back dst) refl
insn_back (Alu SignedMod false dst (InRegister src)) h = rw (register_back dst, register_back src) refl
insn_back (Alu Xor true dst (Immediate i)) h = rw (register_back dst) refl
insn_back (Alu Xor true dst (InRegister src)) h = rw (register_back dst, register_back src) refl
insn_back (Alu Xor false dst (Immediate i)) h = rw (register_back dst) refl
insn_back (Alu Xor false dst (InRegister src)) h = rw (register_back dst, register_back src) refl
insn_back (Alu Mov true dst (Immediate i)) h = rw (register_back dst) refl
insn_back (Alu Mov true dst (InRegister src)) h = rw (register_back dst, register_back src) refl
insn_back (Alu Mov false dst (Immediate i)) h = rw (register_back dst) refl
insn_back (Alu Mov false dst (InRegister src)) h = rw (register_back dst, register_back src) refl
insn_back (Alu Arsh true dst (Immediate i)) h = rw (register_back dst) refl
insn_back (Alu Arsh true dst (InRegister src)) h = rw (register_back dst, register_back src) refl
insn_back (Alu Arsh false dst (Immediate i)) h = rw (register_back dst) refl
insn_back (Alu Arsh false dst (InRegister src)) h = rw (register_back dst, register_back src) refl
insn_back (Neg true dst) h = rw (register_back dst) refl
insn_back (Neg false dst) h = rw (register_back dst) refl
insn_back (End ToLittle Bits16 dst) h = rw (register_back dst) refl
insn_back (End ToLittle Bits32 dst) h = rw (register_back dst) refl
insn_back (End ToLittle Bits64 dst) h = rw (register_back dst) refl
insn_back (End ToBig Bits16 dst) h = rw (register_back dst) refl
insn_back (End ToBig Bits32 dst) h = rw (register_back dst) refl
insn_back (End ToBig Bits64 dst) h = rw (register_back dst) refl
insn_back (End Swap Bits16 dst) h = rw (register_back dst) refl
insn_back (End Swap Bits32 dst) h = rw (register_back dst) refl
insn_back (End Swap Bits64 dst) h = rw (register_back dst) refl
insn_back (MovSx true Byte dst src) h = rw (register_back dst, register_back src) refl
insn_back (MovSx true Half dst src) h = rw (register_back dst, register_back src) refl
insn_back (MovSx true Word dst src) h = rw (register_back dst, register_back src) refl
insn_back (MovSx false Byte dst src) h = rw (register_back dst, register_back src) refl
insn_back (MovSx false Half dst src) h = rw (register_back dst, register_back src) refl
insn_back (MovSx false Word dst src) h = absurd (h.some refl)
insn_back (MovSx wide Double dst src) h = absurd (h.some refl)
insn_back (Const dst value) h = rw (register_back dst, halves value h.fits) refl
insn_back (MapRef dst m) h = rw (register_back dst, of_z-to_z w32 m h.fits) refl
insn_back (Ldx Byte false dst src off) h = rw (register_back dst, register_back src) refl
insn_back (Ldx Half false dst src off) h = rw (register_back dst, register_back src) refl
insn_back (Ldx Word false dst src off) h = rw (register_back dst, register_back src) refl
insn_back (Ldx Double false dst src off) h = rw (register_back dst, register_back src) refl
insn_back (Ldx Byte true dst src off) h = rw (register_back dst, register_back src) refl
insn_back (Ldx Half true dst src off) h = rw (register_back dst, register_back src) refl
insn_back (Ldx Word true dst src off) h = rw (register_back dst, register_back src) refl
insn_back (Ldx Double true dst src off) h = absurd (h.some refl)
insn_back (St Byte dst off imm) h = rw (register_back dst) refl
insn_back (St Half dst off imm) h = rw (register_back dst) refl
insn_back (St Word dst off imm) h = rw (register_back dst) refl
insn_back (St Double dst off imm) h = rw (register_back dst) refl
insn_back (Stx Byte dst src off) h = rw (register_back dst, register_back src) refl
insn_back (Stx Half dst src off) h = rw (register_back dst, register_back src) refl
insn_back (Stx Word dst src off) h = rw (register_back dst, register_back src) refl
insn_back (Stx Double dst src off) h = rw (register_back dst, register_back src) refl
insn_back (AddCounter true dst src off) h = rw (register_back dst, register_back src) refl
insn_back (AddCounter false dst src off) h = rw (register_back dst, register_back src) refl
insn_back (Ja true to) h = refl
insn_back (Ja false to) h = refl
insn_back (Jump Equal true dst (Immediate i) off) h = rw (register_back dst) refl
insn_back (Jump Equal true dst (InRegister src) off) h = rw (register_back dst, register_back src) refl
insn_back (Jump Equal false dst (Immediate i) off) h = rw (register_back dst) refl
insn_back (Jump Equal false dst (InRegister src) off) h = rw (register_back dst, register_back src) refl
insn_back (Jump Greater true dst (Immediate i) off) h = rw (register_back dst) refl
insn_back (Jump Greater true dst (InRegister src) off) h = rw (register_back dst, register_back src) refl
insn_back (Jump Greater false dst (Immediate i) off) h = rw (register_back dst) refl
insn_back (Jump Greater false dst (InRegister src) off) h = rw (register_back dst, register_back src) refl
insn_back (Jump GreaterOrEqual true dst (Immediate i) off) h = rw (register_back dst) refl
insn_back (Jump GreaterOrEqual true dst (InRegister src) off) h = rw (register_back dst, register_back src) refl
insn_back (Jump GreaterOrEqual false dst (Immediate i) off) h = rw (register_back dst) refl
insn_back (Jump GreaterOrEqual false dst (InRegister src) off) h = rw (register_back dst, register_back src) refl
insn_back (Jump Set true dst (Immediate i) off) h = rw (register_back dst) refl
insn_back (Jump Set true dst (InRegister src) off) h = rw (register_back dst, register_back src) refl
insn_back (Jump Set false dst (Immediate i) off) h = rw (register_back dst) refl
insn_back (Jump Set false dst (InRegister src) off) h = rw (register_back dst, register_back src) refl
insn_back (Jump NotEqual true dst (Immediate i) off) h = rw (register_back dst) refl
insn_back (Jump NotEqual true dst (InRegister src) off) h = rw (register_back dst, register_back src) refl
insn_back (Jump NotEqual false dst (Immediate i) off) h = rw (register_back dst) refl
insn_back (Jump NotEqual false dst (InRegister src) off) h = rw (register_back dst, register_back src) refl
insn_back (Jump SignedGreater true dst (Immediate i) off) h = rw (register_back dst) refl
insn_back (Jump SignedGreater true dst (InRegister src) off) h = rw (register_back dst, register_back src) refl
insn_back (Jump SignedGreater false dst (Immediate i) off) h = rw (register_back dst) refl
insn_back (Jump SignedGreater false dst (InRegister src) off) h = rw (register_back dst, register_back src) refl
insn_back (Jump SignedGreaterOrEqual true dst (Immediate i) off) h = rw (register_back dst) refl
insn_back (Jump SignedGreaterOrEqual true dst (InRegister src) off) h = rw (register_back dst, register_back src) refl
insn_back (Jump SignedGreaterOrEqual false dst (Immediate i) off) h = rw (register_back dst) refl
insn_back (Jump SignedGreaterOrEqual false dst (InRegister src) off) h = rw (register_back dst, register_back src) refl
insn_back (Jump Less true dst (Immediate i) off) h = rw (register_back dst) refl
insn_back (Jump Less true dst (InRegister src) off) h = rw (register_back dst, register_back src) refl
insn_back (Jump Less false dst (Immediate i) off) h = rw (register_back dst) refl
insn_back (Jump Less false dst (InRegister src) off) h = rw (register_back dst, register_back src) refl
insn_back (Jump LessOrEqual true dst (Immediate i) off) h = rw (register_back dst) refl
insn_back (Jump LessOrEqual true dst (InRegister src) off) h = rw (register_back dst, register_back src) refl
insn_back (Jump LessOrEqual false dst (Immediate i) off) h = rw (register_back dst) refl
insn_back (Jump LessOrEqual false dst (InRegister src) off) h = rw (register_back dst, register_back src) refl
insn_back (Jump SignedLess true dst (Immediate i) off) h = rw (register_back dst) refl
insn_back (Jump SignedLess true dst (InRegister src) off) h = rw (register_back dst, register_back src) refl
insn_back (Jump SignedLess false dst (Immediate i) off) h = rw (register_back dst) refl
insn_back (Jump SignedLess false dst (InRegister src) off) h = rw (register_back dst, register_back src) refl
insn_back (Jump SignedLessOrEqual true dst (Immediate i) off) h = rw (register_back dst) refl
insn_back (Jump SignedLessOrEqual true dst (InRegister src) off) h = rw (register_back dst, register_back src) refl
insn_back (Jump SignedLessOrEqual false dst (Immediate i) off) h = rw (register_back dst) refl
insn_back (Jump SignedLessOrEqual false dst (InRegister src) off) h = rw (register_back dst, register_back src) refl
insn_back (Call helper) h = refl
insn_back Exit h = refl
insn_back Second h = absurd (h.some refl)

pub same_insn : (i j : Insn) → HasSpelling i → HasSpelling j → slots i ≡ slots j → i ≡ j
same_insn i j h k e = sym (insn_back i h) ∙ (ap insn_of e ∙ insn_back j k)
