-- Stated: claims rest on this file.
-- The text of the stack's slots that an access touches.
use Rattle.std.specs.Prelude.{ℕ, zero, suc, ◌+◌, ◌-◌, ◌*◌, ◌/◌, ℤ, pos, ◌+ℤ◌, Bool, List, [], ◌++◌, codes, Option, None, Some}
use Rattle.std.specs.Prelude.{if◌then◌else◌}
use Rattle.std.specs.Fmt.{decimal}
use Rattle.bpf_insn.specs.Register.{number}
use Rattle.bpf_insn.specs.declared.insn.Insn.{Insn}
use Rattle.bpf_note.specs.Facts.{Facts}
use Rattle.bpf_note.specs.declared.val.Val.{Val}
use Rattle.bpf_note.specs.declared.val.Val.TheVariants.{Stack}
use Rattle.bpf_flow.specs.Memory.{place_in}
use Rattle.bpf_explain.specs.declared.access.Access.{Access}
use Rattle.bpf_explain.specs.Accesses.{access_of}
use Rattle.bpf_explain.specs.Values.{known_text}

-- a byte that is set, and one that is not
abbrev pub byte_text : Bool → List ℕ
byte_text set = if set then codes "#" else codes "?"

-- z bytes of the stack from a place on
abbrev pub bytes_text : Facts → ℕ → ℕ → List ℕ
bytes_text n place zero = []
bytes_text n place (suc z) = byte_text (n.set place) ++ bytes_text n (place + 1) z

-- the value that slot j keeps, or its bytes from the lowest address up
abbrev pub content_text : List (List ℕ) → Facts → ℕ → Option Val → List ℕ
content_text names n j None = bytes_text n (8 * j) 8
content_text names n j (Some v) = known_text names n v

-- slot j by its distance from the stack's end: `fp-8=????##??`
abbrev pub slot_text : List (List ℕ) → Facts → ℕ → List ℕ
slot_text names n j = codes "  fp-" ++ (decimal (512 - 8 * j) ++ (codes "=" ++ content_text names n j (n.kept j)))

-- k slots from slot j on
abbrev pub slots_text : List (List ℕ) → Facts → ℕ → ℕ → List ℕ
slots_text names n j zero = []
slots_text names n j (suc k) = slot_text names n j ++ slots_text names n (j + 1) k

-- the slots that an access touches, by its place and its number of bytes
abbrev pub touched_text : List (List ℕ) → Facts → Option ℕ → ℕ → List ℕ
touched_text names n None bytes = []
touched_text names n (Some place) bytes =
    slots_text names n (place / 8) ((place + bytes - 1) / 8 + 1 - place / 8)

-- the place of an access of that many bytes, `off` past an address of the stack, if it lies in the stack
abbrev pub stack_place : Val → ℤ → ℕ → Option ℕ
stack_place (Stack from) off bytes = place_in (pos 512 +ℤ from +ℤ off) bytes 512
stack_place v off bytes = None

-- the place of an instruction's access, if it lies in the stack
abbrev pub place_at : Facts → Option Access → Option ℕ
place_at n None = None
place_at n (Some a) = stack_place (n.reg (number a.base)) a.off a.bytes

abbrev pub place_of : Facts → Insn → Option ℕ
place_of n i = place_at n (access_of i)

-- the slots that an access touches
abbrev pub stack_text : List (List ℕ) → Facts → Option Access → List ℕ
stack_text names n None = []
stack_text names n (Some a) = touched_text names n (stack_place (n.reg (number a.base)) a.off a.bytes) a.bytes
