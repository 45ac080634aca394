-- For proofs: no claim rests on this file.
-- Parts of a slot.
-- Rows from LLVM guard it: `text` of crates/outside_rows.
use Rattle.std.specs.Prelude.{◌≡◌, ◌/◌, ◌%◌, ◌<◌, pos}
use Rattle.bpf_insn.specs.Register.{number}
use Rattle.bpf_insn.specs.declared.fields.Fields.{Fields}
use Rattle.bpf_insn.specs.declared.insn.Insn.{Insn}
use Rattle.bpf_insn.specs.declared.insn.Insn.TheVariants.{Ldx, St, Stx, AddCounter}
use Rattle.bpf_insn.specs.declared.operand.Operand.{Operand}
use Rattle.bpf_insn.specs.declared.operand.Operand.TheVariants.{Register, Immediate}

-- the second operand of a slot, as the opcode's source bit says (RFC 9669 section 4: K 0, X 1)
abbrev pub IsOperand : Fields → Operand → Type 0
IsOperand f (Immediate i) = ((f.op / 8) % 2 ≡ 0) × (f.src ≡ 0) × (f.imm ≡ i)
IsOperand f (Register r) = ((f.op / 8) % 2 ≡ 1) × (number r ≡ f.src) × (f.imm ≡ pos 0)

-- the register numbers of a slot are below 16, as four bits hold them
pub record HasRegisters (f : Fields) : Type 0 where
  pub dst : f.dst < 16
  pub src : f.src < 16

-- an instruction that reads or writes memory (RFC 9669 section 5)
abbrev pub IsAccess : Insn → Type 0
IsAccess (Ldx size signed dst src off) = Unit {0}
IsAccess (St size dst off imm) = Unit {0}
IsAccess (Stx size dst src off) = Unit {0}
IsAccess (AddCounter fetch dst src off) = Unit {0}
IsAccess i = ⊥
