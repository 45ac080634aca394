-- Stated: claims rest on this file.
-- Numbers that decide a refusal: which bytes of the packet an access reaches, how many counters a value has, and where a jump goes.
use Rattle.std.specs.Prelude.{ℕ, ◌+◌, ℤ, pos, ◌+ℤ◌, List, [], ◌++◌, codes, Option, None, Some, slice_get}
use Rattle.std.specs.Fmt.{decimal, signed_decimal}
use Rattle.bpf_insn.specs.declared.insn.Insn.{Insn}
use Rattle.bpf_insn.specs.declared.insn.Insn.TheVariants.{Ja, Jump}
use Rattle.bpf_note.specs.Shape.{Shape}
use Rattle.bpf_note.specs.declared.val.Val.{Val}
use Rattle.bpf_note.specs.declared.val.Val.TheVariants.{Pkt, Value}
use Rattle.bpf_explain.specs.declared.access.Access.{Access}

-- from the first byte to the one past the last, counted from the base of the address's id: `  access=13..14`
abbrev pub bytes_from : ℤ → ℕ → List ℕ
bytes_from first bytes = codes "  access=" ++ (signed_decimal first ++ (codes ".." ++ signed_decimal (first +ℤ pos bytes)))

abbrev pub span_text : Val → Option Access → List ℕ
span_text (Pkt id off) (Some a) = bytes_from (pos off +ℤ a.off) a.bytes
span_text v a = []

-- how many counters each value of a map has: `  counters=1`
abbrev pub shape_text : Option Shape → List ℕ
shape_text None = []
shape_text (Some s) = codes "  counters=" ++ decimal s.counters

abbrev pub counters_text : List Shape → Val → List ℕ
counters_text shapes (Value m) = shape_text (slice_get shapes m)
counters_text shapes v = []

-- by how much a jump goes on from the next slot
abbrev pub jump_of : Insn → Option ℤ
jump_of (Ja wide_offset to) = Some to
jump_of (Jump cond wide dst src off) = Some off
jump_of i = None

-- the slot to which the jump at slot pc goes: `       to 12`
abbrev pub target_text : ℕ → Option ℤ → List ℕ
target_text pc None = []
target_text pc (Some off) = codes "       to " ++ (signed_decimal (pos (pc + 1) +ℤ off) ++ codes "\n")
