-- Stated: claims rest on this file.
-- The flow graph of a program, and which registers its instructions read and write (RFC 9669, sections 4 and 5).
use Rattle.std.specs.Prelude.{ℕ, ◌+◌, ◌≡◌, ◌⊎◌, Some, Bool, false, ◌&&◌, ◌||◌, ◌==◌, nat_le}
use Rattle.bpf_insn.specs.Register.{number}
use Rattle.bpf_insn.specs.declared.insn.Insn.{Insn}
use Rattle.bpf_insn.specs.declared.insn.Insn.TheVariants.{Alu, Neg, End, MovSx, Const, MapRef, Ldx, St, Stx, AddCounter, Ja, Jump}
use Rattle.bpf_insn.specs.declared.insn.Insn.TheVariants.{Call, Exit, Second}
use Rattle.bpf_insn.specs.declared.operand.Operand.{Operand}
use Rattle.bpf_insn.specs.declared.operand.Operand.TheVariants.{Register, Immediate}
use Rattle.bpf_insn.specs.declared.alu_op.AluOp.TheVariants.{Mov}
use Rattle.bpf_flow.specs.Step.{target}

-- the slot after an instruction: a wide load takes two
abbrev pub next_slot : Insn → ℕ → ℕ
next_slot (Const dst value) pc = pc + 2
next_slot (MapRef dst m) pc = pc + 2
next_slot i pc = pc + 1

-- control may go from an instruction at slot pc to slot q, both edges of a conditional jump counting
abbrev pub Leads : Insn → ℕ → ℕ → Type 0
Leads (Ja wide_offset to) pc q = target pc to ≡ Some q
Leads (Jump cond wide dst src off) pc q = (q ≡ pc + 1) ⊎ (target pc off ≡ Some q)
Leads Exit pc q = ⊥
Leads Second pc q = ⊥
Leads i pc q = q ≡ next_slot i pc

abbrev pub is_operand : Operand → ℕ → Bool
is_operand (Register r) k = k == number r
is_operand (Immediate i) k = false

-- register k is read by the instruction; only MOV doesn't read its destination
abbrev pub reads : Insn → ℕ → Bool
reads (Alu Mov wide dst src) k = is_operand src k
reads (Alu op wide dst src) k = k == number dst || is_operand src k
reads (Neg wide dst) k = k == number dst
reads (End kind width dst) k = k == number dst
reads (MovSx wide bits dst src) k = k == number src
reads (Const dst value) k = false
reads (MapRef dst m) k = false
reads (Ldx size signed dst src off) k = k == number src
reads (St size dst off imm) k = k == number dst
reads (Stx size dst src off) k = k == number dst || k == number src
reads (AddCounter fetch dst src off) k = k == number dst || k == number src
reads (Ja wide_offset to) k = false
reads (Jump cond wide dst src off) k = k == number dst || is_operand src k
reads (Call helper) k = k == 1 || k == 2
reads Exit k = k == 0
reads Second k = false

-- register k is written by the instruction
abbrev pub writes : Insn → ℕ → Bool
writes (Alu op wide dst src) k = k == number dst
writes (Neg wide dst) k = k == number dst
writes (End kind width dst) k = k == number dst
writes (MovSx wide bits dst src) k = k == number dst
writes (Const dst value) k = k == number dst
writes (MapRef dst m) k = k == number dst
writes (Ldx size signed dst src off) k = k == number dst
writes (AddCounter fetch dst src off) k = fetch && k == number src
writes (Call helper) k = k == 0
writes i k = false

-- register k is lost by the instruction: a call leaves r1 to r5 unset
abbrev pub loses : Insn → ℕ → Bool
loses (Call helper) k = nat_le 1 k && nat_le k 5
loses i k = false
