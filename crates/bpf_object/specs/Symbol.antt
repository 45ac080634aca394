-- Stated: claims rest on this file.
-- Symbols (gABI chapter 4, "Symbol Table": Elf64_Sym, of 24 bytes): functions, maps, constants and globals.
use Rattle.std.specs.Prelude.{ℕ, ◌≡◌, ◌+◌, ◌*◌, ◌/◌, ◌%◌, ◌<◌, ◌≤◌, ◌⊎◌, List, length, slice_index, slice_range, codes}
use Rattle.bpf_object.specs.Bytes.{half, word, long, IsText, Begins}
use Rattle.bpf_object.specs.Section.{shnum, section, contents}
use Rattle.bpf_object.specs.Object.{Parts}
use Rattle.bpf_object.specs.declared.symbol.Symbol.{Symbol}

-- st_name, of st_info the binding (ELF64_ST_BIND, its high four bits) and the type (ELF64_ST_TYPE, its low four bits), st_shndx,
-- st_value and st_size of the symbol at a place
unfoldable pub symbol_at : List ℕ → ℕ → Symbol
symbol_at table at = record {
  name = word table at;
  binding = slice_index table (at + 4) / 16;
  kind = slice_index table (at + 4) % 16;
  section = half table (at + 6);
  value = long table (at + 8);
  size = long table (at + 16);
}

-- symbol n of a table
abbrev pub symbol : List ℕ → ℕ → Symbol
symbol table n = symbol_at table (24 * n)

-- the number of symbols
abbrev pub symbol_count : Parts → ℕ
symbol_count o = length o.symbols / 24

-- symbol n is a function (STT_FUNC, 2) of this name
pub record IsFunction (o : Parts) (name : List ℕ) (n : ℕ) : Type 0 where
  pub below : n < symbol_count o
  pub kind : (symbol o.symbols n).kind ≡ 2
  pub named : IsText o.strings (symbol o.symbols n).name name

-- section s has the name ".maps", where libbpf's definitions of maps stand
pub record IsMapSection (o : Parts) (s : ℕ) : Type 0 where
  pub below : s < shnum o.bytes
  pub named : IsText o.names (section o.bytes s).name (codes ".maps")

-- symbol n is a map: an object (STT_OBJECT, 1) there
pub record IsMap (o : Parts) (n : ℕ) : Type 0 where
  pub below : n < symbol_count o
  pub kind : (symbol o.symbols n).kind ≡ 1
  pub there : IsMapSection o (symbol o.symbols n).section

-- section s has this name, or one that begins so
pub record IsCalled (o : Parts) (s : ℕ) (name beginning : List ℕ) : Type 0 where
  pub below : s < shnum o.bytes
  pub named : IsText o.names (section o.bytes s).name name ⊎ Begins o.names (section o.bytes s).name beginning

-- section s has constants, as libbpf knows them (bpf_object__elf_collect): by its name, and the type SHT_PROGBITS (1)
pub record IsOfConstants (o : Parts) (s : ℕ) : Type 0 where
  pub called : IsCalled o s (codes ".rodata") (codes ".rodata.")
  pub kind : (section o.bytes s).kind ≡ 1

-- section s has globals, which programs may write to
abbrev pub IsOfGlobals : Parts → ℕ → Type 0
IsOfGlobals o s = IsCalled o s (codes ".data") (codes ".data.") ⊎ IsCalled o s (codes ".bss") (codes ".bss.")

-- symbol n lies among constants: a constant (STT_OBJECT), or their section (STT_SECTION)
pub record IsConstant (o : Parts) (n : ℕ) : Type 0 where
  pub below : n < symbol_count o
  pub there : IsOfConstants o (symbol o.symbols n).section

-- symbol n lies among globals
pub record IsGlobal (o : Parts) (n : ℕ) : Type 0 where
  pub below : n < symbol_count o
  pub there : IsOfGlobals o (symbol o.symbols n).section

-- a symbol's bytes are 1 or more whole slots of a section of the type SHT_PROGBITS (1)
pub record HasCode (o : Parts) (f : Symbol) : Type 0 where
  pub defined : 0 < f.section
  pub below : f.section < shnum o.bytes
  pub kind : (section o.bytes f.section).kind ≡ 1
  pub begins : f.value % 8 ≡ 0
  pub whole : f.size % 8 ≡ 0
  pub some : 0 < f.size
  pub inside : f.value + f.size ≤ (section o.bytes f.section).size

-- those bytes: st_value "holds a section offset" in relocatable files
abbrev pub code : Parts → Symbol → List ℕ
code o f = slice_range (contents o.bytes (section o.bytes f.section)) f.value (f.value + f.size)
