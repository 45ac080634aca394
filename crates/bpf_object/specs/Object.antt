-- Stated: claims rest on this file.
-- Objects for BPF, and why bytes are none. The causes are tried in this order.
use Rattle.std.specs.Prelude.{ℕ, ◌≡◌, ◌%◌, ◌<◌, List}
use Rattle.bpf_object.specs.Section.{shnum, section, contents, IsInside}
use Rattle.bpf_object.specs.Header.{HasHeader, HasFormat, IsForBpf, HasTable, IsStringTable, shstrndx}
use Rattle.bpf_object.specs.declared.fault.ObjectFault.{ObjectFault}
use Rattle.bpf_object.specs.declared.fault.ObjectFault.TheVariants.{NoHeader, Format, Machine, SectionTable, Section, SectionNames, NoSymbols}
use Rattle.bpf_object.specs.declared.fault.ObjectFault.TheVariants.{TwoSymbolTables, Symbols}

-- the header and the table of section headers
pub record IsElf (bytes : List ℕ) : Type 0 where
  pub header : HasHeader bytes
  pub format : HasFormat bytes
  pub bpf : IsForBpf bytes
  pub table : HasTable bytes

-- all sections lie in the file
pub record AreInside (bytes : List ℕ) : Type 0 where
  pub elf : IsElf bytes
  pub each : (i : ℕ) → i < shnum bytes → IsInside bytes (section bytes i)

-- and their names are there
pub record AreNamed (bytes : List ℕ) : Type 0 where
  pub inside : AreInside bytes
  pub names : IsStringTable bytes (shstrndx bytes)

-- section t has the type SHT_SYMTAB
pub record IsSymbolTable (bytes : List ℕ) (t : ℕ) : Type 0 where
  pub below : t < shnum bytes
  pub kind : (section bytes t).kind ≡ 2

-- t is the one symbol table: "an object file may have only one section of each type" (gABI, SHT_SYMTAB)
pub record IsOneSymbolTable (bytes : List ℕ) (t : ℕ) : Type 0 where
  pub named : AreNamed bytes
  pub is : IsSymbolTable bytes t
  pub one : (u : ℕ) → IsSymbolTable bytes u → u ≡ t

-- A symbol table has whole symbols of 24 bytes (gABI, "Symbol Table": Elf64_Sym), and sh_link is its string table's number.
pub record HasSymbols (bytes : List ℕ) (t : ℕ) : Type 0 where
  pub entry : (section bytes t).entry ≡ 24
  pub whole : (section bytes t).size % 24 ≡ 0
  pub strings : IsStringTable bytes (section bytes t).link

-- what contracts see of an object: its bytes, which section its symbol table is, the names of its sections, its symbols and their
-- names
pub record Parts : Type 0 where
  pub bytes : List ℕ
  pub table : ℕ
  pub names : List ℕ
  pub symbols : List ℕ
  pub strings : List ℕ

pub record IsObject (o : Parts) : Type 0 where
  pub one : IsOneSymbolTable o.bytes o.table
  pub whole : HasSymbols o.bytes o.table
  pub names : o.names ≡ contents o.bytes (section o.bytes (shstrndx o.bytes))
  pub symbols : o.symbols ≡ contents o.bytes (section o.bytes o.table)
  pub strings : o.strings ≡ contents o.bytes (section o.bytes (section o.bytes o.table).link)

-- what each fault says
abbrev pub IsNoObject : List ℕ → ObjectFault → Type 0
IsNoObject bytes NoHeader = HasHeader bytes → ⊥
IsNoObject bytes Format = HasHeader bytes × (HasFormat bytes → ⊥)
IsNoObject bytes Machine = HasHeader bytes × HasFormat bytes × (IsForBpf bytes → ⊥)
IsNoObject bytes SectionTable = HasHeader bytes × HasFormat bytes × IsForBpf bytes × (HasTable bytes → ⊥)
IsNoObject bytes (Section i) = IsElf bytes × (i < shnum bytes) × (IsInside bytes (section bytes i) → ⊥)
    × ((j : ℕ) → j < i → IsInside bytes (section bytes j))
IsNoObject bytes SectionNames = AreInside bytes × (IsStringTable bytes (shstrndx bytes) → ⊥)
IsNoObject bytes NoSymbols = AreNamed bytes × ((t : ℕ) → IsSymbolTable bytes t → ⊥)
IsNoObject bytes (TwoSymbolTables t u) = AreNamed bytes × IsSymbolTable bytes t × IsSymbolTable bytes u × (t < u)
    × ((v : ℕ) → v < u → IsSymbolTable bytes v → v ≡ t)
IsNoObject bytes Symbols = (t : ℕ) × (IsOneSymbolTable bytes t × (HasSymbols bytes t → ⊥))
