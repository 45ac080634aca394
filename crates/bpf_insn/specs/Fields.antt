-- Stated: claims rest on this file.
-- The five fields of a slot and its eight bytes (RFC 9669 section 3.1: opcode, regs, offset, imm; little-endian, the destination in
-- the low four bits of regs).
-- Rows from LLVM guard it: `text` of crates/outside_rows.
use Rattle.std.specs.Prelude.{ℕ, ◌+◌, ◌*◌, ◌/◌, ◌%◌, ◌<◌, List, [], ◌∷◌, FitsSigned}
use Rattle.std.specs.Int.{cast_unsigned, w16, w32}
use Rattle.bpf_insn.specs.declared.fields.Fields.{Fields}

abbrev pub slot_bytes : Fields → List ℕ
slot_bytes f =
    let o = cast_unsigned w16 f.off in
    let i = cast_unsigned w32 f.imm in
    f.op ∷ (f.dst + 16 * f.src) ∷ (o % 256) ∷ (o / 256) ∷ (i % 256) ∷ ((i / 256) % 256) ∷ ((i / 65536) % 256) ∷ (i / 16777216) ∷ []

-- fields that a slot can hold
pub record FitsSlot (f : Fields) : Type 0 where
  pub op : f.op < 256
  pub dst : f.dst < 16
  pub src : f.src < 16
  pub off : FitsSigned w16 f.off
  pub imm : FitsSigned w32 f.imm
