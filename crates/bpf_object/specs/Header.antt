-- Stated: claims rest on this file.
-- The ELF header (gABI chapter 4, "ELF Header": Elf64_Ehdr, of 64 bytes), as objects for BPF have it.
use Rattle.std.specs.Prelude.{ℕ, ◌≡◌, ◌+◌, ◌*◌, ◌<◌, ◌≤◌, List, [], ◌∷◌, length, slice_index, slice_range}
use Rattle.bpf_object.specs.Bytes.{half}
use Rattle.bpf_object.specs.Section.{shoff, shnum, section}

-- a whole header, which begins with EI_MAG0 to EI_MAG3: 0x7f, 'E', 'L', 'F'
pub record HasHeader (bytes : List ℕ) : Type 0 where
  pub whole : 64 ≤ length bytes
  pub magic : slice_range bytes 0 4 ≡ 0x7f ∷ 0x45 ∷ 0x4c ∷ 0x46 ∷ []

-- EI_CLASS is ELFCLASS64, EI_DATA is ELFDATA2LSB, EI_VERSION is EV_CURRENT
pub record HasFormat (bytes : List ℕ) : Type 0 where
  pub class : slice_index bytes 4 ≡ 2
  pub order : slice_index bytes 5 ≡ 1
  pub version : slice_index bytes 6 ≡ 1

-- e_type is ET_REL, e_machine is EM_BPF
pub record IsForBpf (bytes : List ℕ) : Type 0 where
  pub kind : half bytes 16 ≡ 1
  pub machine : half bytes 18 ≡ 247

-- e_shentsize is that of Elf64_Shdr, and the table of section headers lies in the file
pub record HasTable (bytes : List ℕ) : Type 0 where
  pub entry : half bytes 58 ≡ 64
  pub inside : shoff bytes + 64 * shnum bytes ≤ length bytes

-- e_shstrndx
abbrev pub shstrndx : List ℕ → ℕ
shstrndx bytes = half bytes 62

-- section i is there, and its type is SHT_STRTAB
pub record IsStringTable (bytes : List ℕ) (i : ℕ) : Type 0 where
  pub below : i < shnum bytes
  pub kind : (section bytes i).kind ≡ 3
