-- Stated: claims rest on this file.
-- Which struct defines a symbol's map, as libbpf has it: the type of the global variable of the symbol's name in the types' section
-- ".maps" (Linux's Documentation/bpf/btf.rst, section 2.2, BTF_KIND_DATASEC and BTF_KIND_VAR).
use Rattle.std.specs.Prelude.{ℕ, ◌≡◌, ◌+◌, ◌*◌, ◌<◌, ◌⊎◌, List, Some, codes}
use Rattle.bpf_object.specs.Bytes.{word, IsText}
use Rattle.bpf_object.specs.Section.{shnum, section, contents}
use Rattle.bpf_object.specs.Object.{Parts}
use Rattle.bpf_object.specs.Symbol.{symbol, symbol_count, IsMap}
use Rattle.bpf_object.specs.Types.{Table, row, plain, IsTable, IsNoTypes}
use Rattle.bpf_object.specs.Definition.{most_steps, IsDefinition, IsNoDefinition}
use Rattle.bpf_object.specs.declared.types.TypeRow.{TypeRow}
use Rattle.bpf_object.specs.declared.definition.MapDefinition.{MapDefinition}
use Rattle.bpf_object.specs.declared.fault.TypesFault.{TypesFault}
use Rattle.bpf_object.specs.declared.fault.TypesFault.TheVariants.{NoSection as NoTypes, TwoSections as TwoTypes}
use Rattle.bpf_object.specs.declared.fault.MapFault.{MapFault}
use Rattle.bpf_object.specs.declared.fault.MapFault.TheVariants.{NoMap, Name, Symbol, NoSection, TwoSections, NoVariable, TwoVariables, NoStruct}

-- section s has the name ".BTF"
pub record IsTypeSection (o : Parts) (s : ℕ) : Type 0 where
  pub below : s < shnum o.bytes
  pub named : IsText o.names (section o.bytes s).name (codes ".BTF")

pub record IsOneTypeSection (o : Parts) (s : ℕ) : Type 0 where
  pub is : IsTypeSection o s
  pub one : (r : ℕ) → IsTypeSection o r → r ≡ s

-- an object's types, and why it has none
pub record AreTypesOf (o : Parts) (t : Table) : Type 0 where
  pub number : ℕ
  pub is : IsOneTypeSection o number
  pub table : IsTable (contents o.bytes (section o.bytes number)) t

abbrev pub HasNoTypes : Parts → TypesFault → Type 0
HasNoTypes o NoTypes = (s : ℕ) → IsTypeSection o s → ⊥
HasNoTypes o (TwoTypes s r) = IsTypeSection o s × IsTypeSection o r × (s < r) × ((q : ℕ) → q < r → IsTypeSection o q → q ≡ s)
HasNoTypes o fault = (s : ℕ) × (IsOneTypeSection o s × IsNoTypes (contents o.bytes (section o.bytes s)) fault)

-- type n is the section (DATASEC, 15) of this name
pub record IsMaps (t : Table) (n : ℕ) : Type 0 where
  pub type : TypeRow
  pub is : row t n ≡ Some type
  pub kind : type.kind ≡ 15
  pub named : IsText t.strings type.name (codes ".maps")

pub record IsOneMaps (t : Table) (n : ℕ) : Type 0 where
  pub is : IsMaps t n
  pub one : (m : ℕ) → IsMaps t m → m ≡ n

-- struct btf_var_secinfo: the type of entry j of a section
abbrev pub entry : Table → TypeRow → ℕ → ℕ
entry t r j = word t.bytes (r.at + 12 + 12 * j)

-- entry j of a section is a variable (VAR, 14) of this name whose linkage is global (1)
pub record IsVariable (t : Table) (r : TypeRow) (name : List ℕ) (j : ℕ) : Type 0 where
  pub below : j < r.count
  pub variable : TypeRow
  pub is : row t (entry t r j) ≡ Some variable
  pub kind : variable.kind ≡ 14
  pub global : word t.bytes (variable.at + 12) ≡ 1
  pub named : IsText t.strings variable.name name

pub record IsOneVariable (t : Table) (r : TypeRow) (name : List ℕ) (j : ℕ) : Type 0 where
  pub is : IsVariable t r name j
  pub one : (k : ℕ) → IsVariable t r name k → k ≡ j

-- the types' one section of maps, and why there isn't one
pub record IsMapsRow (t : Table) (r : TypeRow) : Type 0 where
  pub number : ℕ
  pub one : IsOneMaps t number
  pub is : row t number ≡ Some r

abbrev pub HasNoMaps : Table → MapFault → Type 0
HasNoMaps t NoSection = (n : ℕ) → IsMaps t n → ⊥
HasNoMaps t (TwoSections n m) = IsMaps t n × IsMaps t m × (n < m) × ((k : ℕ) → k < m → IsMaps t k → k ≡ n)
HasNoMaps t _ = ⊥

-- the type of the section's one variable of this name, and why there isn't one
pub record IsVariableType (t : Table) (r : TypeRow) (name : List ℕ) (n : ℕ) : Type 0 where
  pub number : ℕ
  pub one : IsOneVariable t r name number
  pub variable : TypeRow
  pub is : row t (entry t r number) ≡ Some variable
  pub type : n ≡ variable.of

abbrev pub HasNoVariable : Table → TypeRow → List ℕ → MapFault → Type 0
HasNoVariable t r name NoVariable = (j : ℕ) → IsVariable t r name j → ⊥
HasNoVariable t r name (TwoVariables j k) =
    IsVariable t r name j × IsVariable t r name k × (j < k) × ((i : ℕ) → i < k → IsVariable t r name i → i ≡ j)
HasNoVariable t r name _ = ⊥

-- Symbol n is an object (STT_OBJECT, 1) of this name that other files see: its binding is STB_GLOBAL (1) or STB_WEAK (2). By such
-- a symbol libbpf finds the variable's place (btf_fixup_datasec).
pub record IsVariableSymbol (o : Parts) (name : List ℕ) (n : ℕ) : Type 0 where
  pub below : n < symbol_count o
  pub kind : (symbol o.symbols n).kind ≡ 1
  pub seen : ((symbol o.symbols n).binding ≡ 1) ⊎ ((symbol o.symbols n).binding ≡ 2)
  pub named : IsText o.strings (symbol o.symbols n).name name

pub record IsOneVariableSymbol (o : Parts) (name : List ℕ) (n : ℕ) : Type 0 where
  pub is : IsVariableSymbol o name n
  pub one : (m : ℕ) → IsVariableSymbol o name m → m ≡ n

-- the symbol is a map, and the one variable of this name
pub record IsNamedMap (o : Parts) (n : ℕ) (name : List ℕ) : Type 0 where
  pub is : IsMap o n
  pub one : IsOneVariableSymbol o name n

abbrev pub HasNoName : Parts → ℕ → MapFault → Type 0
HasNoName o n NoMap = IsMap o n → ⊥
HasNoName o n Name = IsMap o n × ((name : List ℕ) → IsText o.strings (symbol o.symbols n).name name → ⊥)
HasNoName o n Symbol = (name : List ℕ) × (IsText o.strings (symbol o.symbols n).name name × (IsOneVariableSymbol o name n → ⊥))
HasNoName o n _ = ⊥

-- the struct s defines the symbol's map
pub record IsStructOf (o : Parts) (t : Table) (n : ℕ) (s : TypeRow) : Type 0 where
  pub name : List ℕ
  pub is : IsNamedMap o n name
  pub maps : TypeRow
  pub section : IsMapsRow t maps
  pub type : ℕ
  pub variable : IsVariableType t maps name type
  pub struct : plain t most_steps type ≡ Some s
  pub kind : s.kind ≡ 4

-- the symbol's map is defined so
pub record IsMapOf (o : Parts) (t : Table) (n : ℕ) (d : MapDefinition) : Type 0 where
  pub struct : TypeRow
  pub is : IsStructOf o t n struct
  pub defines : IsDefinition t struct d

-- why the symbol's map isn't defined: what was tried before it holds
pub data IsNoMap (o : Parts) (t : Table) (n : ℕ) : MapFault → Type 0 where
  no_name : (fault : MapFault) → HasNoName o n fault → IsNoMap o t n fault
  no_section : (fault : MapFault) (name : List ℕ) → IsNamedMap o n name → HasNoMaps t fault → IsNoMap o t n fault
  no_variable : (fault : MapFault) (name : List ℕ) (r : TypeRow) → IsNamedMap o n name → IsMapsRow t r → HasNoVariable t r name fault →
      IsNoMap o t n fault
  no_struct : (name : List ℕ) (r : TypeRow) (type : ℕ) → IsNamedMap o n name → IsMapsRow t r → IsVariableType t r name type →
      ((s : TypeRow) → plain t most_steps type ≡ Some s → s.kind ≡ 4 → ⊥) → IsNoMap o t n NoStruct
  no_definition : (fault : MapFault) (s : TypeRow) → IsStructOf o t n s → IsNoDefinition t s fault → IsNoMap o t n fault
