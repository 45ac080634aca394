-- Stated: claims rest on this file.
-- Programs of an object, and why it has none. The causes are tried in this order.
-- Relocations: gABI chapter 4, "Relocation" (Elf64_Rel, of 16 bytes); their types and what they change: Linux's
-- Documentation/bpf/llvm_reloc.rst.
use Rattle.std.specs.Prelude.{ℕ, ◌≡◌, ◌+◌, ◌-◌, ◌*◌, ◌/◌, ◌%◌, ◌<◌, ◌≤◌, ◌⊎◌, Bool, true, false, IsTrue, ◌&&◌, nat_le, nat_lt, List, [], ◌∷◌, ◌++◌, length, slice_index}
use Rattle.bpf_object.specs.Bytes.{word, long}
use Rattle.bpf_object.specs.Section.{shnum, section, contents}
use Rattle.bpf_object.specs.Object.{Parts}
use Rattle.bpf_object.specs.Symbol.{symbol, IsFunction, IsMap, IsConstant, IsGlobal, HasCode, code}
use Rattle.bpf_object.specs.declared.symbol.Symbol.{Symbol}
use Rattle.bpf_object.specs.declared.relocation.Relocation.{Relocation}
use Rattle.bpf_object.specs.declared.reference.ConstantReference.{ConstantReference}
use Rattle.bpf_object.specs.declared.reference.MapReference.{MapReference}
use Rattle.bpf_object.specs.declared.fault.RelocationFault.{RelocationFault}
use Rattle.bpf_object.specs.declared.fault.RelocationFault.TheVariants.{Kind, Place, InsideMap, Outside, Global, Other}
use Rattle.bpf_object.specs.declared.fault.ProgramFault.{ProgramFault}
use Rattle.bpf_object.specs.declared.fault.ProgramFault.TheVariants.{NoFunction, TwoFunctions, Code, TwoTables, Table, Order, Relocation as Wrong, Memory}

-- r_offset, and of r_info the type (ELF64_R_TYPE, its low half) and the symbol (ELF64_R_SYM, its high half)
unfoldable pub relocation_at : List ℕ → ℕ → Relocation
relocation_at rows at = record { offset = long rows at; kind = word rows (at + 8); symbol = word rows (at + 12) }

abbrev pub relocation : List ℕ → ℕ → Relocation
relocation rows i = relocation_at rows (16 * i)

-- Section r has the type SHT_REL (9) or SHT_RELA (4), and sh_info says that it applies to section s.
pub record AppliesTo (o : Parts) (s : ℕ) (r : ℕ) : Type 0 where
  pub below : r < shnum o.bytes
  pub kind : ((section o.bytes r).kind ≡ 9) ⊎ ((section o.bytes r).kind ≡ 4)
  pub info : (section o.bytes r).info ≡ s

-- relocations without addends, as BPF has them, in whole rows, with the object's symbols
pub record IsTable (o : Parts) (r : ℕ) : Type 0 where
  pub kind : (section o.bytes r).kind ≡ 9
  pub entry : (section o.bytes r).entry ≡ 16
  pub whole : (section o.bytes r).size % 16 ≡ 0
  pub link : (section o.bytes r).link ≡ o.table

-- the relocations of section s: none, or those of the one table that applies to it
pub data AreRows (o : Parts) (s : ℕ) : List ℕ → Type 0 where
  none : ((r : ℕ) → AppliesTo o s r → ⊥) → AreRows o s []
  one : (r : ℕ) → AppliesTo o s r → ((q : ℕ) → AppliesTo o s q → q ≡ r) → IsTable o r → AreRows o s (contents o.bytes (section o.bytes r))

-- each lies above the one before it
abbrev pub AreInOrder : List ℕ → Type 0
AreInOrder rows = (i : ℕ) → i + 1 < length rows / 16 → (relocation rows i).offset < (relocation rows (i + 1)).offset

-- the relocation changes one of the function's bytes
abbrev pub is_within : Symbol → Relocation → Bool
is_within f r = nat_le f.value r.offset && nat_lt r.offset (f.value + f.size)

-- It changes a wide load of a number (RFC 9669 section 5.4: opcode 0x18, two slots).
pub record IsLoad (f : Symbol) (bytes : List ℕ) (r : Relocation) : Type 0 where
  pub slot : (r.offset - f.value) % 8 ≡ 0
  pub inside : r.offset - f.value + 16 ≤ f.size
  pub opcode : slice_index bytes (r.offset - f.value) ≡ 0x18
  pub source : slice_index bytes (r.offset - f.value + 1) / 16 ≡ 0

-- the number is 0: no place inside a map
pub record IsOfZero (f : Symbol) (bytes : List ℕ) (r : Relocation) : Type 0 where
  pub low : word bytes (r.offset - f.value + 4) ≡ 0
  pub high : word bytes (r.offset - f.value + 12) ≡ 0

-- R_BPF_64_64 (1), of a wide load of 0, with the symbol of a map
pub record NamesMap (o : Parts) (f : Symbol) (r : Relocation) : Type 0 where
  pub kind : r.kind ≡ 1
  pub load : IsLoad f (code o f) r
  pub zero : IsOfZero f (code o f) r
  pub is : IsMap o r.symbol

-- Where a constant lies in its section: the load's imm and the symbol's value, in 32 bits (libbpf's bpf_object__relocate_data).
abbrev pub constant_place : Parts → Symbol → Relocation → ℕ
constant_place o f r = (word (code o f) (r.offset - f.value + 4) + (symbol o.symbols r.symbol).value % 4294967296) % 4294967296

-- the relocation's symbol lies in a section of more bytes than are before that place
abbrev pub IsInsideSection : Parts → Symbol → Relocation → Type 0
IsInsideSection o f r = constant_place o f r < (section o.bytes (symbol o.symbols r.symbol).section).size

-- R_BPF_64_64, of a wide load, with a symbol among constants
pub record NamesConstant (o : Parts) (f : Symbol) (r : Relocation) : Type 0 where
  pub kind : r.kind ≡ 1
  pub load : IsLoad f (code o f) r
  pub is : IsConstant o r.symbol
  pub inside : IsInsideSection o f r

-- why the symbol of a wide load's relocation is neither
abbrev pub IsWrongSymbol : Parts → Symbol → Relocation → RelocationFault → Type 0
IsWrongSymbol o f r InsideMap = IsMap o r.symbol × (IsOfZero f (code o f) r → ⊥)
IsWrongSymbol o f r Outside = IsConstant o r.symbol × (IsInsideSection o f r → ⊥)
IsWrongSymbol o f r Global = IsGlobal o r.symbol
IsWrongSymbol o f r Other = (IsMap o r.symbol → ⊥) × (IsConstant o r.symbol → ⊥) × (IsGlobal o r.symbol → ⊥)
IsWrongSymbol o f r _ = ⊥

-- why a relocation names neither a map nor a constant
abbrev pub IsWrong : Parts → Symbol → Relocation → RelocationFault → Type 0
IsWrong o f r Kind = r.kind ≡ 1 → ⊥
IsWrong o f r Place = (r.kind ≡ 1) × (IsLoad f (code o f) r → ⊥)
IsWrong o f r cause = (r.kind ≡ 1) × IsLoad f (code o f) r × IsWrongSymbol o f r cause

-- the slot of the wide load, and the symbol of the map
abbrev pub reference : Symbol → Relocation → MapReference
reference f r = record { slot = (r.offset - f.value) / 8; map = r.symbol }

-- the slot of the wide load, the section of constants, and the place there
abbrev pub constant_reference : Parts → Symbol → Relocation → ConstantReference
constant_reference o f r =
    record { slot = (r.offset - f.value) / 8; section = (symbol o.symbols r.symbol).section; place = constant_place o f r }

-- The first n rows refer to these maps and constants: each row that lies in the function names one.
pub data AreReferences (o : Parts) (f : Symbol) (rows : List ℕ) : ℕ → List MapReference → List ConstantReference → Type 0 where
  nothing : AreReferences o f rows 0 [] []
  outside : (n : ℕ) (ms : List MapReference) (cs : List ConstantReference) → AreReferences o f rows n ms cs →
      is_within f (relocation rows n) ≡ false → AreReferences o f rows (n + 1) ms cs
  one_map : (n : ℕ) (ms : List MapReference) (cs : List ConstantReference) → AreReferences o f rows n ms cs →
      is_within f (relocation rows n) ≡ true → NamesMap o f (relocation rows n) →
      AreReferences o f rows (n + 1) (ms ++ reference f (relocation rows n) ∷ []) cs
  one_constant : (n : ℕ) (ms : List MapReference) (cs : List ConstantReference) → AreReferences o f rows n ms cs →
      is_within f (relocation rows n) ≡ true → NamesConstant o f (relocation rows n) →
      AreReferences o f rows (n + 1) ms (cs ++ constant_reference o f (relocation rows n) ∷ [])

-- symbol n is the one function of this name
pub record IsOneFunction (o : Parts) (name : List ℕ) (n : ℕ) : Type 0 where
  pub is : IsFunction o name n
  pub one : (m : ℕ) → IsFunction o name m → m ≡ n

-- the one function of this name, which has code and these relocations
pub record HasRows (o : Parts) (name : List ℕ) (n : ℕ) (rows : List ℕ) : Type 0 where
  pub is : IsOneFunction o name n
  pub has : HasCode o (symbol o.symbols n)
  pub table : AreRows o (symbol o.symbols n).section rows

-- the program of this name has these bytes and refers to these maps and constants
pub record IsProgram (o : Parts) (name bytes : List ℕ) (maps : List MapReference) (constants : List ConstantReference) : Type 0 where
  pub number : ℕ
  pub rows : List ℕ
  pub has : HasRows o name number rows
  pub order : AreInOrder rows
  pub taken : bytes ≡ code o (symbol o.symbols number)
  pub refers : AreReferences o (symbol o.symbols number) rows (length rows / 16) maps constants

-- there isn't one function of this name
abbrev pub IsNotFound : Parts → List ℕ → ProgramFault → Type 0
IsNotFound o name NoFunction = (n : ℕ) → IsFunction o name n → ⊥
IsNotFound o name (TwoFunctions n m) = IsFunction o name n × IsFunction o name m × (n < m)
    × ((k : ℕ) → k < m → IsFunction o name k → k ≡ n)
IsNotFound o name _ = ⊥

-- the tables that apply to section s aren't one that can be read
abbrev pub HasNoTable : Parts → ℕ → ProgramFault → Type 0
HasNoTable o s (TwoTables r q) = AppliesTo o s r × AppliesTo o s q × (r < q)
    × ((p : ℕ) → p < q → AppliesTo o s p → p ≡ r)
HasNoTable o s (Table r) = AppliesTo o s r × (IsTable o r → ⊥)
HasNoTable o s _ = ⊥

-- row i is the first that doesn't lie above the one before it
pub record IsFirstLow (rows : List ℕ) (i : ℕ) : Type 0 where
  pub some : 0 < i
  pub below : i < length rows / 16
  pub low : (relocation rows i).offset ≤ (relocation rows (i - 1)).offset
  pub before : (j : ℕ) → j + 1 < i → (relocation rows j).offset < (relocation rows (j + 1)).offset

abbrev pub IsLow : List ℕ → ProgramFault → Type 0
IsLow rows (Order i) = IsFirstLow rows i
IsLow rows _ = ⊥

-- row i is the first that changes the function and names neither a map nor a constant
pub record IsFirstWrong (o : Parts) (f : Symbol) (rows : List ℕ) (i : ℕ) (cause : RelocationFault) : Type 0 where
  pub below : i < length rows / 16
  pub inside : IsTrue (is_within f (relocation rows i))
  pub wrong : IsWrong o f (relocation rows i) cause
  pub maps : List MapReference
  pub constants : List ConstantReference
  pub before : AreReferences o f rows i maps constants

abbrev pub HasNoReferences : Parts → Symbol → List ℕ → ProgramFault → Type 0
HasNoReferences o f rows (Wrong i cause) = IsFirstWrong o f rows i cause
HasNoReferences o f rows Memory = Unit {0}
HasNoReferences o f rows _ = ⊥

-- why there is no such program: what was tried before it holds
pub data IsNoProgram (o : Parts) (name : List ℕ) : ProgramFault → Type 0 where
  not_found : (fault : ProgramFault) → IsNotFound o name fault → IsNoProgram o name fault
  no_code : (n : ℕ) → IsOneFunction o name n → (HasCode o (symbol o.symbols n) → ⊥) → IsNoProgram o name Code
  no_table : (fault : ProgramFault) (n : ℕ) → IsOneFunction o name n → HasCode o (symbol o.symbols n) →
      HasNoTable o (symbol o.symbols n).section fault → IsNoProgram o name fault
  not_rising : (fault : ProgramFault) (n : ℕ) (rows : List ℕ) → HasRows o name n rows → IsLow rows fault → IsNoProgram o name fault
  no_references : (fault : ProgramFault) (n : ℕ) (rows : List ℕ) → HasRows o name n rows → AreInOrder rows →
      HasNoReferences o (symbol o.symbols n) rows fault → IsNoProgram o name fault
