-- Stated: claims rest on this file.
-- Sections (gABI chapter 4, "Section Header": Elf64_Shdr, of 64 bytes).
use Rattle.std.specs.Prelude.{ℕ, ◌≡◌, ◌+◌, ◌*◌, ◌≤◌, ◌⊎◌, ◌==◌, ◌||◌, if◌then◌else◌, List, [], length, slice_range}
use Rattle.bpf_object.specs.Bytes.{half, word, long}
use Rattle.bpf_object.specs.declared.section.Section.{Section}

-- sh_name, sh_type, sh_offset, sh_size, sh_link, sh_info and sh_entsize of the header at a place
unfoldable pub section_at : List ℕ → ℕ → Section
section_at bytes at = record {
  name = word bytes at;
  kind = word bytes (at + 4);
  offset = long bytes (at + 24);
  size = long bytes (at + 32);
  link = word bytes (at + 40);
  info = word bytes (at + 44);
  entry = long bytes (at + 56);
}

-- e_shoff and e_shnum of the ELF header: where the table of section headers begins, and its number of headers
abbrev pub shoff : List ℕ → ℕ
shoff bytes = long bytes 40

abbrev pub shnum : List ℕ → ℕ
shnum bytes = half bytes 60

-- the header of section i
abbrev pub section : List ℕ → ℕ → Section
section bytes i = section_at bytes (shoff bytes + 64 * i)

-- a section has bytes in the file: all but those of the types SHT_NULL (0) and SHT_NOBITS (8)
abbrev pub IsAbsent : Section → Type 0
IsAbsent s = (s.kind ≡ 0) ⊎ (s.kind ≡ 8)

-- the section's bytes lie in the file
abbrev pub IsInside : List ℕ → Section → Type 0
IsInside bytes s = IsAbsent s ⊎ (s.offset + s.size ≤ length bytes)

-- the bytes of a section
abbrev pub contents : List ℕ → Section → List ℕ
contents bytes s = if (s.kind == 0) || (s.kind == 8) then [] else slice_range bytes s.offset (s.offset + s.size)
