-- Stated: claims rest on this file.
-- The slot of bytes that spell no program (RFC 9669 section 3).
use Rattle.std.specs.Prelude.{ℕ, ◌+◌, ◌*◌, List, [], ◌++◌, codes, length, nat_le, take, drop, Bool, true, false, ◌&&◌, if◌then◌else◌}
use Rattle.hex.specs.Hex.{encode_lower}
use Rattle.bpf_insn.specs.declared.refusal.Cause.{Cause}
use Rattle.bpf_insn.specs.declared.refusal.Cause.TheVariants.{Opcode, Register, Unsupported}
use Rattle.bpf_explain.specs.Listing.{pc_text}

-- the cause lies in one slot's fields
abbrev pub is_of_fields : Cause → Bool
is_of_fields Opcode = true
is_of_fields Register = true
is_of_fields Unsupported = true
is_of_fields c = false

-- `count` bytes from place `at` on, in hex
abbrev pub hex_at : List ℕ → ℕ → ℕ → List ℕ
hex_at bytes at count = encode_lower (take count (drop at bytes))

-- the slot at this byte by its fields: the opcode; source and destination register, four bits each; the offset; the constant
abbrev pub fields_text : List ℕ → ℕ → List ℕ
fields_text program at =
    hex_at program at 1 ++ (codes " " ++ (hex_at program (at + 1) 1
    ++ (codes " " ++ (hex_at program (at + 2) 2 ++ (codes " " ++ hex_at program (at + 4) 4)))))

-- `>  1: 8f 21 0000 00000000`
abbrev pub refused_slot_text : List ℕ → ℕ → Cause → List ℕ
refused_slot_text program pc c =
    if is_of_fields c && nat_le (8 * pc + 8) (length program) then codes ">"
    ++ (pc_text pc ++ (codes ": " ++ (fields_text program (8 * pc) ++ codes "\n"))) else []
