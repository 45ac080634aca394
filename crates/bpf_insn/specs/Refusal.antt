-- Stated: claims rest on this file.
-- Which bytes are refused, at which slot and why. The order of the causes is this project's own.
-- Rows from LLVM guard which instructions are left out: `text` of crates/outside_rows. Rows worked by hand guard the
-- order: crates/bpf_insn_tests/src/tests/prefixes.rt.
use Rattle.std.specs.Prelude.{ℕ, ◌≡◌, ◌≢◌, ◌<◌, ◌≤◌, ◌%◌, ◌⊎◌, ◌==◌, ◌&&◌, ◌||◌, not, nat_le, int_le, Bool, true, false, pos, List}
use Rattle.std.specs.Prelude.{[], ◌∷◌, ◌++◌, flat_map, length}
use Rattle.std.specs.List.{AllByRecursion, list_any}
use Rattle.bpf_insn.specs.Fields.{slot_bytes, FitsSlot}
use Rattle.bpf_insn.specs.Spelling.{slots, spelling, HasSpelling, ContinuesNone}
use Rattle.bpf_insn.specs.Code.{takes}
use Rattle.bpf_insn.specs.declared.fields.Fields.{Fields}
use Rattle.bpf_insn.specs.declared.insn.Insn.{Insn}
use Rattle.bpf_insn.specs.declared.refusal.Cause.{Cause}
use Rattle.bpf_insn.specs.declared.refusal.Cause.TheVariants.{Length, Memory, Opcode, Register, Unsupported}
use Rattle.bpf_insn.specs.declared.refusal.Refusal.{Refusal}

-- a positive number of slots, at most 4,096
pub record HasLength (bytes : List ℕ) : Type 0 where
  pub some : 0 < length bytes
  pub short : length bytes ≤ 32768
  pub whole : length bytes % 8 ≡ 0

-- a slot that alone spells an instruction
pub record IsSpelled (f : Fields) : Type 0 where
  pub insn : Insn
  pub spelled : slots insn ≡ f ∷ []

-- an opcode with which the spelling of an instruction begins
pub record IsOpcode (op : ℕ) : Type 0 where
  pub insn : Insn
  pub first : Fields
  pub others : List Fields
  pub spelled : slots insn ≡ first ∷ others
  pub same : first.op ≡ op

-- legacy packet access (RFC 9669 section 5.5) and 32-bit atomic operations (section 5.3), which this profile leaves out
abbrev pub is_unsupported : ℕ → Bool
is_unsupported op = list_any (λ x. op == x) (0x20 ∷ 0x28 ∷ 0x30 ∷ 0x40 ∷ 0x48 ∷ 0x50 ∷ 0xc3 ∷ [])

-- what this profile leaves out of an opcode that it has: the other kinds of a wide load (section 5.4) and of a call (section 4.3.1),
-- the other atomic operations (section 5.3)
abbrev pub has_unsupported_field : Fields → Bool
has_unsupported_field f =
    ((f.op == 0x18) && (nat_le 2 f.src && nat_le f.src 6))
    || ((f.op == 0x85) && (nat_le 1 f.src && nat_le f.src 2))
    || ((f.op == 0xdb) && not (int_le (pos 0) f.imm && int_le f.imm (pos 1)))

-- why a slot that continues no spelling is refused: the first rule that applies, each being for what those before it leave
pub data HasCause (f : Fields) : Cause → Type 0 where
  unsupported_opcode : is_unsupported f.op ≡ true → HasCause f Unsupported
  unknown_opcode : is_unsupported f.op ≡ false → (IsOpcode f.op → ⊥) → HasCause f Opcode
  no_register : is_unsupported f.op ≡ false → IsOpcode f.op → (10 < f.dst) ⊎ (10 < f.src) → HasCause f Register
  unsupported_field : is_unsupported f.op ≡ false → IsOpcode f.op → f.dst ≤ 10 → f.src ≤ 10 → has_unsupported_field f ≡ true →
      HasCause f Unsupported
  other_field : is_unsupported f.op ≡ false → IsOpcode f.op → f.dst ≤ 10 → f.src ≤ 10 → has_unsupported_field f ≡ false → HasCause f Opcode

-- the slots below pc are those of instructions that are spelled one after the other, and rest is what follows
pub record Reaches (bytes : List ℕ) (pc : ℕ) (rest : List ℕ) : Type 0 where
  pub front : List Insn
  pub spelled : AllByRecursion HasSpelling front
  pub written : bytes ≡ flat_map spelling front ++ rest
  pub counted : length (flat_map takes front) ≡ pc

-- bytes that continue no spelling, the cause being that of their first slot
pub record Stops (rest : List ℕ) (cause : Cause) : Type 0 where
  pub fields : Fields
  pub after : List ℕ
  pub begins : rest ≡ slot_bytes fields ++ after
  pub fits : FitsSlot fields
  pub none : ContinuesNone rest
  pub why : HasCause fields cause

-- the slot at pc is the first that continues no spelling
pub record StopsAt (bytes : List ℕ) (pc : ℕ) (cause : Cause) : Type 0 where
  pub rest : List ℕ
  pub reached : Reaches bytes pc rest
  pub stops : Stops rest cause

-- the refusal of bytes: for their length, at slot 0, or at the first slot that continues no spelling
abbrev pub IsRefused : List ℕ → Cause → ℕ → Type 0
IsRefused bytes cause pc = ((HasLength bytes → ⊥) × (cause ≡ Length) × (pc ≡ 0)) ⊎ (HasLength bytes × StopsAt bytes pc cause)

-- memory ran out while the slot at pc was read, all before it being spelled
pub record RunsOut (bytes : List ℕ) (pc : ℕ) : Type 0 where
  pub length : HasLength bytes
  pub rest : List ℕ
  pub reached : Reaches bytes pc rest
  pub some : rest ≢ []

-- what `decode` answers if it gives no code
abbrev pub IsNoCode : List ℕ → Refusal → Type 0
IsNoCode bytes r = IsRefused bytes r.cause r.pc ⊎ ((r.cause ≡ Memory) × RunsOut bytes r.pc)
