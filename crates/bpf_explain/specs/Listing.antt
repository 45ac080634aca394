-- Stated: claims rest on this file.
-- The listing of a program, in the notation of the Linux kernel's disassembler.
use Rattle.std.specs.Prelude.{ℕ, ◌+◌, List, [], ◌∷◌, ◌++◌, codes, Option, None, Some, Bool, true, false, ◌==◌, nat_lt, if◌then◌else◌}
use Rattle.std.specs.Fmt.{decimal}
use Rattle.bpf_insn.specs.Text.{insn_text}
use Rattle.bpf_insn.specs.declared.insn.Insn.{Insn}
use Rattle.bpf_insn.specs.declared.insn.Insn.TheVariants.{Second}

-- a slot's number in three columns, or in the four that it takes
abbrev pub pc_text : ℕ → List ℕ
pc_text pc = if nat_lt pc 10 then codes "  " ++ decimal pc else if nat_lt pc 100 then codes " " ++ decimal pc else decimal pc

-- `  2: r10 = r1`, after its mark
abbrev pub line_text : List ℕ → ℕ → Insn → List ℕ
line_text mark pc i = mark ++ (pc_text pc ++ (codes ": " ++ (insn_text i ++ codes "\n")))

abbrev pub is_marked : Option ℕ → ℕ → Bool
is_marked None pc = false
is_marked (Some p) pc = p == pc

abbrev pub is_second : Insn → Bool
is_second Second = true
is_second i = false

-- the line of a slot; the marked one has more below it, and the second slot of a wide load has none
abbrev pub slot_text : Option ℕ → List ℕ → ℕ → Insn → List ℕ
slot_text marked below pc i =
    if is_second i then []
    else if is_marked marked pc then line_text (codes ">") pc i ++ below
    else line_text (codes " ") pc i

-- the lines of slots, the first of which has this number
abbrev pub listing_text : Option ℕ → List ℕ → ℕ → List Insn → List ℕ
listing_text marked below pc [] = []
listing_text marked below pc (i ∷ is) = slot_text marked below pc i ++ listing_text marked below (pc + 1) is
