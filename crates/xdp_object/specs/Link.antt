-- Stated: claims rest on this file.
-- A program's bytes with the numbers of its maps and the addresses of its constants, as libbpf loads it (bpf_object__relocate_data). A wide
-- load that refers to a map gets the source register BPF_PSEUDO_MAP_FD and the map's number as its imm. One that refers to a constant gets
-- the constant's address, as the kernel makes it of BPF_PSEUDO_MAP_VALUE.
use Rattle.std.specs.Prelude.{ℕ, ◌≡◌, ◌+◌, ◌-◌, ◌*◌, ◌/◌, ◌%◌, List, [], ◌∷◌, ◌++◌, Option, Some, None, if◌then◌else◌, length, nat_eq, nat_lt, position, slice_index, slice_set}
use Rattle.bpf_note.specs.Constants.{constant_address}
use Rattle.bpf_object.specs.declared.reference.ConstantReference.{ConstantReference}
use Rattle.bpf_object.specs.declared.reference.MapReference.{MapReference}
use Rattle.xdp_object.specs.declared.fault.SetupFault.{SetupFault}
use Rattle.xdp_object.specs.declared.fault.SetupFault.TheVariants.{Maps, Memory}

-- The program with a map's number in the wide load at this byte, whose imm is 0 (struct bpf_insn of Linux's bpf.h: src_reg is the high half
-- of byte 1, imm the four bytes from byte 4 on). BPF_PSEUDO_MAP_FD is 1.
abbrev pub with_map : List ℕ → ℕ → ℕ → List ℕ
with_map program at number = slice_set (slice_set program (at + 1) (16 + slice_index program (at + 1) % 16)) (at + 4) number

-- the program with this number in the four bytes from a place on, the least significant first
abbrev pub with_imm : List ℕ → ℕ → ℕ → List ℕ
with_imm program at n =
    slice_set (slice_set (slice_set (slice_set program at (n % 256)) (at + 1) (n / 256 % 256)) (at + 2) (n / 65536 % 256)) (at + 3) (n / 16777216 % 256)

-- The program with an address of 32 bits in the wide load at this byte, whose source register is 0. The low half of the load's number is the
-- imm, and its high half that of the second slot (RFC 9669, section 5.4).
abbrev pub with_address : List ℕ → ℕ → ℕ → List ℕ
with_address program at address = with_imm (with_imm program (at + 4) address) (at + 12) 0

-- The number of a symbol or a section, and those that have numbers then. They are numbered from 0 on, in the order in which they are first
-- referred to, and there are not more than so many.
abbrev pub next_number : ℕ → List ℕ → ℕ → Option (ℕ × List ℕ)
next_number most those one = if nat_lt (length those) most then Some (length those, those ++ one ∷ []) else None

abbrev pub numbered_by : ℕ → Option ℕ → List ℕ → ℕ → Option (ℕ × List ℕ)
numbered_by most (Some number) those one = Some (number, those)
numbered_by most None those one = next_number most those one

abbrev pub numbered : ℕ → List ℕ → ℕ → Option (ℕ × List ℕ)
numbered most those one = numbered_by most (position (nat_eq one) those) those one

-- the symbols of the maps by their numbers, and the program with these; none if there are more than 16
abbrev pub linked_by : (List ℕ → List ℕ → Option (List ℕ × List ℕ)) → List ℕ → ℕ → Option (ℕ × List ℕ) → Option (List ℕ × List ℕ)
linked_by rest program slot None = None
linked_by rest program slot (Some n) = rest n.1 (with_map program (8 * slot) n.0)

abbrev pub linked : List ℕ → List ℕ → List MapReference → Option (List ℕ × List ℕ)
linked maps program [] = Some (maps, program)
linked maps program (r ∷ rs) = linked_by (λ ms p. linked ms p rs) program r.slot (numbered 16 maps r.map)

-- The sections of constants are maps behind these, numbered from the first on: the sections, and the program with addresses; none if there are
-- more than 16 maps in all.
abbrev pub placed_by : (List ℕ → List ℕ → Option (List ℕ × List ℕ)) → ℕ → List ℕ → ConstantReference → Option (ℕ × List ℕ) →
    Option (List ℕ × List ℕ)
placed_by rest first program c None = None
placed_by rest first program c (Some n) = rest n.1 (with_address program (8 * c.slot) (constant_address (first + n.0) c.place))

abbrev pub placed : ℕ → List ℕ → List ℕ → List ConstantReference → Option (List ℕ × List ℕ)
placed first sections program [] = Some (sections, program)
placed first sections program (c ∷ cs) =
    placed_by (λ ss p. placed first ss p cs) first program c (numbered (16 - first) sections c.section)

-- the symbols of maps and the sections of constants by their numbers, and the program with both
pub record Links : Type 0 where
  pub maps : List ℕ
  pub sections : List ℕ
  pub program : List ℕ

abbrev pub with_sections : List ℕ → Option (List ℕ × List ℕ) → Option Links
with_sections maps None = None
with_sections maps (Some p) = Some (record { maps = maps; sections = p.0; program = p.1 })

abbrev pub links_with : List ConstantReference → Option (List ℕ × List ℕ) → Option Links
links_with constants None = None
links_with constants (Some l) = with_sections l.0 (placed (length l.0) [] l.1 constants)

abbrev pub links_of : List ℕ → List MapReference → List ConstantReference → Option Links
links_of code maps constants = links_with constants (linked [] code maps)

-- why there is nothing linked
abbrev pub IsUnlinked : {X : Type 0} → Option X → SetupFault → Type 0
IsUnlinked l Maps = l ≡ None
IsUnlinked l Memory = Unit {0}
IsUnlinked l _ = ⊥
